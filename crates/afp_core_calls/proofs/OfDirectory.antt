pub mod CallRows
pub mod NodeRows
pub mod UserIds
