pub mod WorkedSets
