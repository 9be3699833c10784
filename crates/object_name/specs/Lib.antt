pub mod ObjectName
