-- The word at which a command is refused.
use Rattle.std.specs.Prelude.{◌≡◌, ℕ, ◌+◌, if◌then◌else◌, List, [], ◌∷◌, ◌++◌, Option, Some, None, is_some, Ok, Err}
use Rattle.elf_model.specs.Inputs.Command.{Phrase, Said, and_then, phrase_of, placed, read_behind, split, whole_line}
use Rattle.elf_model.specs.declared.faults.CmdFault.{CmdFault}

-- how many words a phrase has, and phrases have
abbrev pub words_of_said : Said → ℕ
words_of_said s = if is_some s.value then 2 else 1

abbrev pub words_in : List Said → ℕ
words_in [] = 0
words_in (s ∷ ss) = words_of_said s + words_in ss

-- words are refused at the one that has a number: those before it are phrases, each of which may stand where it does, and the
-- phrase that it begins has the fault, or may not stand behind them
pub record IsRefusedAt (words : List (List ℕ)) (number : ℕ) (f : CmdFault) : Type 0 where
  pub front : List Said
  pub said : Said
  pub rest : List Said
  pub phrases : List Phrase
  pub order : split words ≡ front ++ said ∷ rest
  pub number_is : number ≡ words_in front
  pub before : read_behind [] front ≡ Ok phrases
  pub refused : and_then (phrase_of said) (placed phrases) ≡ Err f

-- all words are phrases, each of which may stand where it does, and together they have the fault
pub record AreRefusedTogether (words : List (List ℕ)) (f : CmdFault) : Type 0 where
  pub phrases : List Phrase
  pub read : read_behind [] (split words) ≡ Ok phrases
  pub refused : whole_line phrases ≡ Err f

-- words are refused at the one that has the number; without a number, all of them together
abbrev pub AreRefused : List (List ℕ) → CmdFault → Option ℕ → Type 0
AreRefused words f (Some number) = IsRefusedAt words number f
AreRefused words f None = AreRefusedTogether words f
