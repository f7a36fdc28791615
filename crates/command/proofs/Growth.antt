-- The plan of some phrases and one more: reading a phrase at a time gives the plan of all of them.
use Rattle.std.proofs.Common.{◌≡◌, ℕ, ◌+◌, ◌-◌, Bool, true, false, cond, not, nat_eq, ◌&&◌, ◌||◌, List, [], ◌∷◌, ◌++◌, length, Option, Some, None, is_some, Ok, Err, refl, ap, ◌∙◌, sym, append_assoc, append-nil, arith, codes, length-append}
use Rattle.std.specs.Option.{option_map, option_or, option_to_list, unwrap_or}
use Rattle.std.specs.List.{filter, filter_map, cons_option, last_or, list_any}
use Rattle.std.proofs.lemmas.List.Elements.{filter_map-append, filter-append}
use Rattle.std.proofs.lemmas.Grind.{common_steps}
use Rattle.elf_model.specs.declared.faults.CmdFault.{CmdFault}
use Rattle.elf_model.specs.declared.faults.CmdFault.TheVariants.{MissingValue, GroupNesting, NoInput, NotArchiveInGroup}
use Rattle.elf_model.specs.Inputs.Command.{Item, Phrase, Input, GroupStart, GroupEnd, and_then, last_said, is_open, open_group, groups_begun, item_behind, items_behind, plan_of_phrases, placed, whole_line, is_archive, source_in, directory_in, undefined_in, entry_in, base_in, output_in, map_in, is_check, is_strip, whole_in, group_in, is_group_start}
use Rattle.command.specs.Steps.{State, more, item_in, group_after, taken, accept, finish}

-- the state behind some phrases
abbrev pub state_from : List Phrase → State
state_from ps = record { plan = plan_of_phrases ps; whole = last_said whole_in false ps; group = open_group ps; groups = groups_begun ps }

last_or_more : {X : Type 0} (o : Option X) (xs : List X) (m : Option X) → last_or o (xs ++ cons_option m []) ≡ option_or m (last_or o xs)
last_or_more o [] None = refl
last_or_more o [] (Some x) = refl
last_or_more o (y ∷ ys) m = last_or_more (Some y) ys m

unwrap_more : {X : Type 0} (m o : Option X) (d : X) → unwrap_or (option_or m o) d ≡ unwrap_or m (unwrap_or o d)
unwrap_more None o d = refl
unwrap_more (Some x) o d = refl

last_more : {X : Type 0} (says : Phrase → Option X) (ps : List Phrase) (p : Phrase) → last_or None (filter_map says (ps ++ p ∷ [])) ≡ option_or (says p) (last_or None (filter_map says ps))
last_more says ps p = rw (filter_map-append says ps (p ∷ [])) (last_or_more None (filter_map says ps) (says p))

said_more : {X : Type 0} (says : Phrase → Option X) (d : X) (ps : List Phrase) (p : Phrase) → last_said says d (ps ++ p ∷ []) ≡ unwrap_or (says p) (last_said says d ps)
said_more says d ps p = ap (λ o. unwrap_or o d) (last_more says ps p) ∙ unwrap_more (says p) (last_or None (filter_map says ps)) d

cons_more : {X : Type 0} (xs : List X) (m : Option X) → xs ++ cons_option m [] ≡ more m xs
cons_more xs None = grind (arith, common_steps)
cons_more xs (Some x) = refl

all_more : {X : Type 0} (says : Phrase → Option X) (ps : List Phrase) (p : Phrase) → filter_map says (ps ++ p ∷ []) ≡ more (says p) (filter_map says ps)
all_more says ps p = filter_map-append says ps (p ∷ []) ∙ cons_more (filter_map says ps) (says p)

any_more : (says : Phrase → Bool) (ps : List Phrase) (p : Phrase) → list_any says (ps ++ p ∷ []) ≡ (list_any says ps || says p)
any_more says [] p = grind arith
any_more says (q ∷ ps) p = let e = any_more says ps p in grind arith

single : {X : Type 0} (m : Option X) → option_to_list m ++ [] ≡ more m []
single None = refl
single (Some x) = refl

behind_more : {X : Type 0} (xs : List X) (m : Option X) (ys : List X) → xs ++ more m ys ≡ more m (xs ++ ys)
behind_more xs None ys = refl
behind_more xs (Some x) ys = sym (append_assoc xs ys (x ∷ []))

one_more : (b : Bool) (p : Phrase) (n : ℕ) → n + length (cond b (p ∷ []) []) ≡ cond b (n + 1) n
one_more true p n = omega arith
one_more false p n = omega arith

items_more : (front ps : List Phrase) (p : Phrase) → items_behind front (ps ++ p ∷ []) ≡ more (option_map (item_behind (front ++ ps)) (source_in p)) (items_behind front ps)
items_more front [] p =
    single (option_map (item_behind front) (source_in p))
    ∙ ap (λ (f : List Phrase). more (option_map (item_behind f) (source_in p)) []) (sym (append-nil front))
items_more front (q ∷ ps) p =
    let here : List Item = option_to_list (option_map (item_behind front) (source_in q)) in
    ap (λ zs. here ++ zs) (items_more (front ++ q ∷ []) ps p)
    ∙ behind_more here (option_map (item_behind ((front ++ q ∷ []) ++ ps)) (source_in p)) (items_behind (front ++ q ∷ []) ps)
    ∙ ap (λ (f : List Phrase). more (option_map (item_behind f) (source_in p)) (here ++ items_behind (front ++ q ∷ []) ps)) (append_assoc front (q ∷ []) ps)

groups_more : (ps : List Phrase) (p : Phrase) → groups_begun (ps ++ p ∷ []) ≡ cond (is_group_start p) (groups_begun ps + 1) (groups_begun ps)
groups_more ps p =
    ap length (filter-append is_group_start ps (p ∷ []))
    ∙ length-append (filter is_group_start ps) (filter is_group_start (p ∷ []))
    ∙ one_more (is_group_start p) p (length (filter is_group_start ps))

group_by : (p : Phrase) (inside : Bool) (n : ℕ) → cond (unwrap_or (group_in p) inside) (Some (cond (is_group_start p) (n + 1) n - 1)) None ≡ elim p as (λ _. Option ℕ) [ GroupStart ↦ Some n | GroupEnd ↦ None | _ ↦ cond inside (Some (n - 1)) None ]
group_by GroupStart inside n = ap Some (omega arith)
group_by GroupEnd inside n = refl
group_by p inside n = refl

-- the open group behind one more phrase
group_more : (ps : List Phrase) (p : Phrase) → open_group (ps ++ p ∷ []) ≡ group_after (state_from ps) p
group_more ps p =
    ap (λ b. cond b (Some (groups_begun (ps ++ p ∷ []) - 1)) None) (said_more group_in false ps p)
    ∙ ap (λ n. cond (unwrap_or (group_in p) (is_open ps)) (Some (n - 1)) None) (groups_more ps p)
    ∙ group_by p (is_open ps) (groups_begun ps)

-- a state by its parts
made : List Item → List (List ℕ) → List (List ℕ) → List ℕ → ℕ → List ℕ → Option (List ℕ) → Bool → Bool → Bool → Option ℕ → ℕ → State
made items directories undefined entry base output map check strip whole group groups = record {
  plan = record { items = items; directories = directories; undefined = undefined; entry = entry; base = base; output = output; map = map; check = check; strip = strip };
  whole = whole;
  group = group;
  groups = groups;
}

same_made : (i j : List Item) (d e u v : List (List ℕ)) (n o : List ℕ) (a b : ℕ) (x y : List ℕ) (l m : Option (List ℕ)) (c k q r w z : Bool) (g h : Option ℕ) (s t : ℕ) → i ≡ j → d ≡ e → u ≡ v → n ≡ o → a ≡ b → x ≡ y → l ≡ m → c ≡ k → q ≡ r → w ≡ z → g ≡ h → s ≡ t → made i d u n a x l c q w g s ≡ made j e v o b y m k r z h t
same_made i j d e u v n o a b x y l m c k q r w z g h s t p1 p2 p3 p4 p5 p6 p7 p8 p9 p10 p11 p12 = cc

-- the state behind one more phrase
pub state_more : (ps : List Phrase) (p : Phrase) → state_from (ps ++ p ∷ []) ≡ taken (state_from ps) p
unfolding made
state_more ps p = same_made _ _ _ _ _ _ _ _ _ _ _ _ _ _ _ _ _ _ _ _ _ _ _ _
    (items_more [] ps p)
    (all_more directory_in ps p)
    (all_more undefined_in ps p)
    (said_more entry_in (codes "_start") ps p)
    (said_more base_in 0x400000 ps p)
    (said_more output_in (codes "a.out") ps p)
    (last_more map_in ps p)
    (any_more is_check ps p)
    (any_more is_strip ps p)
    (said_more whole_in false ps p)
    (group_more ps p)
    (groups_more ps p)

open_is : (ps : List Phrase) → is_some (open_group ps) ≡ is_open ps
open_is ps = elim (is_open ps) as (λ b. is_some (cond b (Some (groups_begun ps - 1)) None) ≡ b) [ true ↦ refl | false ↦ refl ]

refused : (b : Bool) (f : CmdFault) (s : State) (qs : List Phrase) → state_from qs ≡ s → cond b (Err f) (Ok s) ≡ and_then (cond b (Err f) (Ok qs)) (λ rs. Ok (state_from rs))
refused true f s qs e = refl
refused false f s qs e = ap Ok (sym e)

allowed : (b : Bool) (f : CmdFault) (s : State) (qs : List Phrase) → state_from qs ≡ s → cond b (Ok s) (Err f) ≡ and_then (cond b (Ok qs) (Err f)) (λ rs. Ok (state_from rs))
allowed true f s qs e = ap Ok (sym e)
allowed false f s qs e = refl

item_kept : (b : Bool) (i : Item) (s : State) → and_then (cond b (Err NotArchiveInGroup) (Ok i)) (λ _. Ok s) ≡ cond b (Err NotArchiveInGroup) (Ok s)
item_kept true i s = refl
item_kept false i s = refl

-- a phrase is accepted where it may be placed
pub accept_is : (ps : List Phrase) (p : Phrase) → accept (state_from ps) p ≡ and_then (placed ps p) (λ qs. Ok (state_from qs))
accept_is ps GroupStart =
    ap (λ b. cond b (Err GroupNesting) (Ok (taken (state_from ps) GroupStart))) (open_is ps)
    ∙ refused (is_open ps) GroupNesting (taken (state_from ps) GroupStart) (ps ++ GroupStart ∷ []) (state_more ps GroupStart)
accept_is ps GroupEnd =
    ap (λ b. cond b (Ok (taken (state_from ps) GroupEnd)) (Err GroupNesting)) (open_is ps)
    ∙ allowed (is_open ps) GroupNesting (taken (state_from ps) GroupEnd) (ps ++ GroupEnd ∷ []) (state_more ps GroupEnd)
accept_is ps (Input s) =
    item_kept (is_some (open_group ps) && not (is_archive s)) (item_in (state_from ps) s) (taken (state_from ps) (Input s))
    ∙ ap (λ b. cond (b && not (is_archive s)) (Err NotArchiveInGroup) (Ok (taken (state_from ps) (Input s)))) (open_is ps)
    ∙ refused (is_open ps && not (is_archive s)) NotArchiveInGroup (taken (state_from ps) (Input s)) (ps ++ Input s ∷ []) (state_more ps (Input s))
accept_is ps p = ap Ok (sym (state_more ps p))

-- the faults of the whole line
pub finish_is : (ps : List Phrase) → finish (state_from ps) ≡ whole_line ps
finish_is ps = ap (λ b. cond b (Err GroupNesting) (cond (nat_eq (length (plan_of_phrases ps).items) 0) (Err NoInput) (cond ((plan_of_phrases ps).check && not (is_some (plan_of_phrases ps).map)) (Err MissingValue) (Ok (plan_of_phrases ps))))) (open_is ps)
