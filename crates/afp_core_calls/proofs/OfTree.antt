pub mod TreeRows
