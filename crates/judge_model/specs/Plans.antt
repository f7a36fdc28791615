-- What the words of another linker's command ask for (ld(1)): the profile's part, as items, directories, names of -u and
-- the entry; and what other linkers alone know.
use Rattle.std.specs.Prelude.{ℕ, ◌+◌, ◌==◌, ◌&&◌, ◌||◌, Bool, false, List, [], ◌∷◌, Option, cond, drop, length, map}
use Rattle.std.specs.List.{list_any, range_with_len, slice_get}
use Rattle.std.specs.Option.{option_map_or}
use Rattle.elf_model.specs.Inputs.Command.{Plan, is_empty}

-- what a linker script says that a judge asks for: the names that it gives a value outside and inside PROVIDE, and the
-- patterns of the sections that it wraps in KEEP and gives to /DISCARD/; and whether it has AT
pub record Script : Type 0 where
  pub names : List (List ℕ)
  pub provided : List (List ℕ)
  pub keeps : List (List ℕ)
  pub discards : List (List ℕ)
  pub physical : Bool

-- an output section that is to begin at an address: --section-start, -Ttext=, -Tdata=, -Tbss=
pub record Start : Type 0 where
  pub name : List ℕ
  pub address : ℕ

-- the profile's part, of which the entry is that of -e, else of a script's ENTRY, else the profile's; --gc-sections; --eh-frame-hdr; -z
-- muldefs; -N, by which memory may be written and executed; -z execstack or its no, if one is there; the bits of -z ibt,
-- shstk and lam; -Ttext-segment= and --image-base=; the output sections that have an address; whether all names may be
-- missing (-s) and those that are LOCAL (-x); the script
pub record ForeignPlan : Type 0 where
  pub plan : Plan
  pub collects : Bool
  pub tables : Bool
  pub takes_first : Bool
  pub writes_code : Bool
  pub executes_stack : Option Bool
  pub features : ℕ
  pub segment : Option ℕ
  pub starts : List Start
  pub strips : Bool
  pub strips_local : Bool
  pub script : Option Script

-- a pattern of a script stands for a name: `*` for any bytes, `?` for any one, another byte for itself
abbrev pub suffixes : List ℕ → List (List ℕ)
suffixes name = map (λ k. drop k name) (range_with_len 0 (length name + 1))

abbrev pub begins_as : ℕ → List ℕ → Bool
begins_as p name = option_map_or (λ b. p == 63 || p == b) (slice_get name 0) false

abbrev pub is_match : List ℕ → List ℕ → Bool
is_match [] name = is_empty name
is_match (p ∷ ps) name = cond (p == 42) (list_any (is_match ps) (suffixes name)) (begins_as p name && is_match ps (drop 1 name))

-- what a plan's script says; nothing without one
abbrev pub in_script : (Script → Bool) → ForeignPlan → Bool
in_script test p = option_map_or test p.script false

abbrev pub is_script_name : ForeignPlan → List ℕ → Bool
is_script_name p name = in_script (λ t. list_any (λ n. is_match n name) t.names) p

abbrev pub is_provided : ForeignPlan → List ℕ → Bool
is_provided p name = in_script (λ t. list_any (λ n. is_match n name) t.provided) p

abbrev pub is_kept_by_script : ForeignPlan → List ℕ → Bool
is_kept_by_script p name = in_script (λ t. list_any (λ n. is_match n name) t.keeps) p

abbrev pub is_discarded : ForeignPlan → List ℕ → Bool
is_discarded p name = in_script (λ t. list_any (λ n. is_match n name) t.discards) p
