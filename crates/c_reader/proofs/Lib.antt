-- the tree of a text: its tokens, forms, names and places
pub mod TokenForms
pub mod PlacedReadings
pub mod ExpressionForms
pub mod AnnotationForms
pub mod ClauseForms
pub mod DeclarationForms
pub mod Places
pub mod FormPlaces
pub mod StatementForms
pub mod ParameterForms
pub mod Covers
pub mod ItemOrder
pub mod StructForms
pub mod FileForms
pub mod EachForms
pub mod PlacedDeclarations
pub mod KindsInOrder
pub mod MembersLast
pub mod FileOrder
pub mod StringBytes
pub mod TextTokens
pub mod ReadTrees
-- what typing keeps of each expression
-- texts
pub mod AcceptedTexts
pub mod Judgements
pub mod Phases
pub mod Texts
-- examples, by computation
mod WorkedTexts
