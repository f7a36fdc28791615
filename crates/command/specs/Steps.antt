-- The first phrase of some words, as the code takes it off.
use Rattle.std.specs.Prelude.{◌≡◌, ◌≢◌, ℕ, ◌+◌, Bool, not, ◌&&◌, ◌||◌, ◌==◌, if◌then◌else◌, List, [], ◌∷◌, ◌++◌, length, Option, Some, None, is_some, Result, Ok, Err}
use Rattle.std.specs.Option.{option_map, option_map_or, option_or, unwrap_or}
use Rattle.elf_model.specs.Inputs.Command.{Source, Item, Plan, Phrase, Input, GroupStart, GroupEnd, Setting, and_then, given, of_word, setting_of, is_archive, source_in, directory_in, undefined_in, entry_in, base_in, output_in, map_in, is_check, is_strip, whole_in, is_group_start}
use Rattle.elf_model.specs.declared.faults.CmdFault.{CmdFault}
use Rattle.elf_model.specs.declared.faults.CmdFault.TheVariants.{Memory, MissingValue, GroupNesting, NoInput, NotArchiveInGroup}

-- an option's phrase with the next word as its value, and the words behind
abbrev pub with_next : List (List ℕ) → Setting → Result (Phrase × List (List ℕ)) CmdFault
with_next [] s = Err MissingValue
with_next (v ∷ ws) s = and_then (given s v) (λ p. Ok (p, ws))

-- the phrase that a word begins, and the words behind it
abbrev pub phrase_at : List ℕ → List (List ℕ) → Result (Phrase × List (List ℕ)) CmdFault
phrase_at w ws = option_map_or (with_next ws) (setting_of w) (and_then (of_word w) (λ p. Ok (p, ws)))

-- the plan so far, and what of the phrases so far says how later ones are read
pub record State : Type 0 where
  pub plan : Plan
  pub whole : Bool
  pub group : Option ℕ
  pub groups : ℕ

-- a list with one more element where there is one
abbrev pub more : {X : Type 0} → Option X → List X → List X
more None xs = xs
more (Some x) xs = xs ++ x ∷ []

abbrev pub item_in : State → Source → Item
item_in s source = record { source = source; archive = is_archive source; whole = s.whole; group = s.group }

abbrev pub group_after : State → Phrase → Option ℕ
group_after s GroupStart = Some s.groups
group_after s GroupEnd = None
group_after s _ = s.group

-- what a phrase leaves
abbrev pub taken : State → Phrase → State
taken s p = record {
  plan = record {
    items = more (option_map (item_in s) (source_in p)) s.plan.items;
    directories = more (directory_in p) s.plan.directories;
    undefined = more (undefined_in p) s.plan.undefined;
    entry = unwrap_or (entry_in p) s.plan.entry;
    base = unwrap_or (base_in p) s.plan.base;
    output = unwrap_or (output_in p) s.plan.output;
    map = option_or (map_in p) s.plan.map;
    check = s.plan.check || is_check p;
    strip = s.plan.strip || is_strip p;
  };
  whole = unwrap_or (whole_in p) s.whole;
  group = group_after s p;
  groups = if is_group_start p then s.groups + 1 else s.groups;
}

-- the item that names a source, or the fault of an object in a group
abbrev pub item_at : Bool → Option ℕ → Source → Result Item CmdFault
item_at whole group source =
    if is_some group && not (is_archive source) then Err NotArchiveInGroup
    else Ok (record { source = source; archive = is_archive source; whole = whole; group = group })

-- the same, or the fault of a phrase that may not stand there
abbrev pub accept : State → Phrase → Result State CmdFault
accept s GroupStart = if is_some s.group then Err GroupNesting else Ok (taken s GroupStart)
accept s GroupEnd = if is_some s.group then Ok (taken s GroupEnd) else Err GroupNesting
accept s (Input source) = and_then (item_at s.whole s.group source) (λ i. Ok (taken s (Input source)))
accept s p = Ok (taken s p)

-- the plan after all phrases
abbrev pub finish : State → Result Plan CmdFault
finish s =
    if is_some s.group then Err GroupNesting else
    (if length s.plan.items == 0 then Err NoInput else
    (if s.plan.check && not (is_some s.plan.map) then Err MissingValue else Ok s.plan))

-- a fault but for want of memory is that of the definition
abbrev pub Fails : {X : Type 0} → CmdFault → Result X CmdFault → Type 0
Fails f r = f ≢ Memory → r ≡ Err f
