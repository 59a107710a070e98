mod DeclaredNumbers
mod DeclaredParts
pub mod FewComponents
mod FirstCircular
mod FirstDiffering
mod FirstMisfit
mod FirstNotMade
mod Firsts
pub mod GlobalLists
pub mod InOrder
pub mod Items
mod Joined
pub mod Kept
mod KeptComplexes
pub mod LinkedSet
mod Members
mod Numbered
mod NumberedModels
mod OnceNamed
mod OncePlaced
pub mod OneAnswer
pub mod OneSet
pub mod Passing
mod PlacesOfParts
mod ResolvedNames
mod Respelled
mod SameTypes
mod SetChains
mod SetContents
mod SetCounts
mod SetModels
mod SetNames
mod SetOfDocuments
mod SetUses
mod Spaces
mod TypedNumbers
mod WalkedParts
