-- What a header can hold.
use Rattle.std.specs.Prelude.{ℕ, ◌^◌, ◌≤◌, ◌<◌}
use Rattle.place.specs.Table.{capacity}
use Rattle.controller.specs.declared.controller.ControllerConfig.{ControllerConfig}

-- settings and a count that a header can hold
pub record Fitting (c : ControllerConfig) (n : ℕ) : Type 0 where
  pub count : n ≤ capacity
  pub limit : c.lpi_limit < 2 ^ 32
  pub size : c.distributor_size < 2 ^ 64
