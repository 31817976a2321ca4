pub mod Banks
pub mod BankLaws
pub mod FieldLaws
pub mod RowLaws
