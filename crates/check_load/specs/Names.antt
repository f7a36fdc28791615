-- What is known of names, and what the symbols of an object ask for and define.
use Rattle.std.specs.Prelude.{ℕ, Bool, false, List, ◌&&◌, slice_index_or}
use Rattle.std.specs.List.{list_any}
use Rattle.elf_model.specs.Link.Loading.{has_name, is_definition, is_request}
use Rattle.elf_model.specs.Inputs.ObjectFile.{symbols}
use Rattle.elf_model.specs.declared.records.Symbol.{Symbol}
use Rattle.check_load.specs.NameNumbers.{number_of}
use Rattle.check_load.specs.declared.known_names.NameState.{NameState}

-- names, and what is known of each at its number
pub record Names : Type 0 where
  pub names : List (List ℕ)
  pub states : List NameState

-- what is known of a name that was never noted
abbrev pub unknown : NameState
unknown = record { requested = false; defined = false }

-- what is known at a number
abbrev pub state_at : List NameState → ℕ → NameState
state_at states i = slice_index_or states i unknown

-- what is known of a name
abbrev pub state_in : Names → List ℕ → NameState
state_in n name = state_at n.states (number_of n.names name)

-- a name is asked for; it is defined
unfoldable pub requests_name : Names → List ℕ → Bool
requests_name n name = (state_in n name).requested

unfoldable pub defines_name : Names → List ℕ → Bool
defines_name n name = (state_in n name).defined

-- of these symbols of an object's bytes, one asks for a name, or defines it, where these sections are dropped
unfoldable pub asked_from : List ℕ → List ℕ → List Symbol → List ℕ → Bool
asked_from bytes dropped ss name = list_any (λ s. has_name bytes name s && is_request dropped s) ss

unfoldable pub defined_from : List ℕ → List ℕ → List Symbol → List ℕ → Bool
defined_from bytes dropped ss name = list_any (λ s. has_name bytes name s && is_definition dropped s) ss

abbrev pub asked_in : List ℕ → List ℕ → List ℕ → Bool
asked_in bytes dropped name = asked_from bytes dropped (symbols bytes) name

abbrev pub defined_in : List ℕ → List ℕ → List ℕ → Bool
defined_in bytes dropped name = defined_from bytes dropped (symbols bytes) name
