pub mod ChangeAnswers
pub mod ChangeLaws
pub mod Questions
pub mod QuestionLaws
