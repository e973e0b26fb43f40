pub mod RefusedTexts
