-- A word in front that asks for no symbol table: the words behind it are read as without it.
use Rattle.std.proofs.Common.{◌≡◌, ◌∙◌, ℕ, List, [], ◌∷◌, ◌++◌, ap, codes, refl}
use Rattle.std.specs.Prelude.{Bool, true, false, None, Result, Ok, Err, if◌then◌else◌, is_some, not, ◌&&◌, ◌==◌, length, option_map}
use Rattle.std.specs.Option.{option_to_list}
use Rattle.elf_model.specs.Inputs.Command.{Item, Plan, Phrase, Said, Output, Entry, Undefined, Directory, Input, MapFile, Base, GroupStart, GroupEnd, WholeStart, WholeEnd, Check, Strip, NoEffect, and_then, command_of, is_archive, is_open, item_behind, items_behind, phrase_of, placed, plan_of_phrases, read_behind, source_in, split, whole_line}
use Rattle.elf_model.specs.declared.faults.CmdFault.{CmdFault}
use Rattle.elf_model.specs.declared.faults.CmdFault.TheVariants.{GroupNesting, MissingValue, NoInput, NotArchiveInGroup}
use Rattle.debug_main.specs.Words.{stripped}

-- one more phrase in front of those that were read
more : Result (List Phrase) CmdFault → Result (List Phrase) CmdFault
more (Ok ps) = Ok (Strip ∷ ps)
more (Err f) = Err f

first : Said
first = record { word = codes "-s"; value = None }

split_first : (ws : List (List ℕ)) → split (codes "-s" ∷ ws) ≡ first ∷ split ws
unfolding first
split_first [] = refl
split_first (v ∷ ws) = refl

placed_more : (front : List Phrase) (p : Phrase) → placed (Strip ∷ front) p ≡ more (placed front p)
unfolding more
placed_more front GroupStart =
    elim (is_open front) as (λ b. (if b then Err GroupNesting else Ok (Strip ∷ (front ++ GroupStart ∷ []))) ≡ more (if b then Err GroupNesting else Ok (front ++ GroupStart ∷ []))) [ true ↦ refl | false ↦ refl ]
placed_more front GroupEnd =
    elim (is_open front) as (λ b. (if b then Ok (Strip ∷ (front ++ GroupEnd ∷ [])) else Err GroupNesting) ≡ more (if b then Ok (front ++ GroupEnd ∷ []) else Err GroupNesting)) [ true ↦ refl | false ↦ refl ]
placed_more front (Input s) =
    elim (is_open front && not (is_archive s)) as (λ b. (if b then Err NotArchiveInGroup else Ok (Strip ∷ (front ++ Input s ∷ []))) ≡ more (if b then Err NotArchiveInGroup else Ok (front ++ Input s ∷ []))) [ true ↦ refl | false ↦ refl ]
placed_more front (Output v) = refl
placed_more front (Entry v) = refl
placed_more front (Undefined v) = refl
placed_more front (Directory v) = refl
placed_more front (MapFile v) = refl
placed_more front (Base n) = refl
placed_more front WholeStart = refl
placed_more front WholeEnd = refl
placed_more front Check = refl
placed_more front Strip = refl
placed_more front NoEffect = refl

-- what is read behind one more phrase in front
behind_read :
    (ss : List Said) → ((ps : List Phrase) → read_behind (Strip ∷ ps) ss ≡ more (read_behind ps ss)) → (r : Result (List Phrase) CmdFault) →
    and_then (more r) (λ ps. read_behind ps ss) ≡ more (and_then r (λ ps. read_behind ps ss))
unfolding more
behind_read ss rest (Err f) = refl
behind_read ss rest (Ok ps) = rest ps

behind_placed :
    (ss : List Said) → ((ps : List Phrase) → read_behind (Strip ∷ ps) ss ≡ more (read_behind ps ss)) → (front : List Phrase) (r : Result Phrase CmdFault) →
    and_then (and_then r (placed (Strip ∷ front))) (λ ps. read_behind ps ss) ≡ more (and_then (and_then r (placed front)) (λ ps. read_behind ps ss))
unfolding more
behind_placed ss rest front (Err f) = refl
behind_placed ss rest front (Ok p) =
    ap (λ (r : Result (List Phrase) CmdFault). and_then r (λ ps. read_behind ps ss)) (placed_more front p) ∙ behind_read ss rest (placed front p)

behind_more : (ss : List Said) (front : List Phrase) → read_behind (Strip ∷ front) ss ≡ more (read_behind front ss)
unfolding more
behind_more [] front = refl
behind_more (s ∷ ss) front = behind_placed ss (behind_more ss) front (phrase_of s)

-- the items stay
items_more : (front ps : List Phrase) → items_behind (Strip ∷ front) ps ≡ items_behind front ps
items_more front [] = refl
items_more front (p ∷ ps) =
    ap (λ (is : List Item). option_to_list (option_map (item_behind front) (source_in p)) ++ is) (items_more (front ++ p ∷ []) ps)

-- the plan of phrases with these items
with_items : List Item → Plan → Plan
with_items is p = record p { items = is; strip = true }

plan_more : (ps : List Phrase) → plan_of_phrases (Strip ∷ ps) ≡ record (plan_of_phrases ps) { strip = true }
unfolding with_items
plan_more ps = ap (λ (is : List Item). with_items is (plan_of_phrases ps)) (items_more [] ps)

-- the faults of the whole line
judged : Bool → Plan → Result Plan CmdFault
judged opened p =
    if opened then Err GroupNesting else
    (if length p.items == 0 then Err NoInput else
    (if p.check && not (is_some p.map) then Err MissingValue else Ok p))

judged_more : (opened : Bool) (p : Plan) → judged opened (record p { strip = true }) ≡ stripped (judged opened p)
unfolding judged
judged_more true p = refl
judged_more false p =
    elim (length p.items == 0) as (λ b. (if b then Err NoInput else (if p.check && not (is_some p.map) then Err MissingValue else Ok (record p { strip = true }))) ≡ stripped (if b then Err NoInput else (if p.check && not (is_some p.map) then Err MissingValue else Ok p))) [
      | true ↦ refl
      | false ↦ elim (p.check && not (is_some p.map)) as (λ c. (if c then Err MissingValue else Ok (record p { strip = true })) ≡ stripped (if c then Err MissingValue else Ok p)) [ true ↦ refl | false ↦ refl ]
    ]

line_more : (ps : List Phrase) → whole_line (Strip ∷ ps) ≡ stripped (whole_line ps)
unfolding judged
line_more ps = ap (judged (is_open ps)) (plan_more ps) ∙ judged_more (is_open ps) (plan_of_phrases ps)

line_of : (r : Result (List Phrase) CmdFault) → and_then (more r) whole_line ≡ stripped (and_then r whole_line)
unfolding more
line_of (Err f) = refl
line_of (Ok ps) = line_more ps

pub strip_first : (ws : List (List ℕ)) → command_of (codes "-s" ∷ ws) ≡ stripped (command_of ws)
unfolding command_of first
strip_first ws =
    ap (λ (ss : List Said). and_then (read_behind [] ss) whole_line) (split_first ws)
    ∙ (ap (λ (r : Result (List Phrase) CmdFault). and_then r whole_line) (behind_more (split ws) []) ∙ line_of (read_behind [] (split ws)))
