-- What the code keeps of a table between its lines.
pub mod Lines
