-- What a cube and a trail with its tables are seen as. Trails themselves are said in the crate
-- `theory`.
pub mod Cubes
pub mod Tables
pub mod TrailOver
