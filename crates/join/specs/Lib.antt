-- How a tree's nodes, one after the other, give the lines of its proof, and which numbers stand in
-- them.
pub mod Deleted
pub mod Joining
pub mod Numbered
pub mod Walking
pub mod Before
pub mod Lines
pub mod Values
pub mod Rooms
