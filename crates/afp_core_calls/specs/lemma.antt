pub mod TreeChanges
