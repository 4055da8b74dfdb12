pub mod Solve
pub mod SolveLaws
pub mod Wide
pub mod PivotLaws
