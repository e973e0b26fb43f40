-- Lines as bytes.
pub mod Rows
pub mod Scanning
