-- The words of ld-debug: those of the linker's command, and -S, which asks for no debug data. What an option takes as its value
-- is none of them.
use Rattle.std.specs.Prelude.{◌≡◌, ℕ, Bool, true, not, ◌&&◌, List, ◌∷◌, Result, Ok, Err, codes}
use Rattle.std.specs.List.{filter, flat_map, list_any}
use Rattle.std.specs.Option.{is_none, option_to_list}
use Rattle.std.specs.Str.{bytes_eq}
use Rattle.elf_model.specs.Inputs.Command.{Plan, Said, command_of, split}
use Rattle.elf_model.specs.declared.faults.CmdFault.{CmdFault}

-- a phrase is a word by itself, without a value, and this one
abbrev pub is_alone : List ℕ → Said → Bool
is_alone word s = is_none s.value && bytes_eq s.word word

-- a word is among words, and no option's value
abbrev pub stands_alone : List ℕ → List (List ℕ) → Bool
stands_alone word words = list_any (is_alone word) (split words)

-- the words of a phrase
abbrev pub said_words : Said → List (List ℕ)
said_words s = s.word ∷ option_to_list s.value

-- the words but for each -S that is no option's value
abbrev pub plain_words : List (List ℕ) → List (List ℕ)
plain_words words = flat_map said_words (filter (λ s. not (is_alone (codes "-S") s)) (split words))

-- the plan of the same words and one that asks for no symbol table, or their fault
abbrev pub stripped : Result Plan CmdFault → Result Plan CmdFault
stripped (Ok p) = Ok (record p { strip = true })
stripped (Err f) = Err f

-- words that are a command ask for no symbol table
abbrev pub IsStripped : List (List ℕ) → Type 0
IsStripped words = (p : Plan) → command_of words ≡ Ok p → p.strip ≡ true
