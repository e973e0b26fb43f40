-- What is left to be read of an input.
use Rattle.std.specs.Prelude.{ℕ, List, Option, Some}
use Rattle.std.specs.Io.Cursor.{cursor_remaining}
use Rattle.commands.specs.declared.input.Input.{Input}
use Rattle.commands.specs.declared.input.Input.TheVariants.{File, Standard}
use Rattle.commands.specs.declared.formula_text.FormulaText.{FormulaText}
use Rattle.commands.specs.declared.formula_text.FormulaText.TheVariants.{AsItIs, Strict}

abbrev pub input_remaining : {F I : Type 0} → (F → Option (List ℕ)) → (I → Option (List ℕ)) → Input F I → Option (List ℕ)
input_remaining of_file of_standard (File f) = of_file f
input_remaining of_file of_standard (Standard i) = of_standard i

-- of a formula's text
abbrev pub text_remaining : {I : Type 0} → (I → Option (List ℕ)) → FormulaText I → Option (List ℕ)
text_remaining of_input (AsItIs i) = of_input i
text_remaining of_input (Strict c lines) = cursor_remaining (λ v. Some v.items) c
