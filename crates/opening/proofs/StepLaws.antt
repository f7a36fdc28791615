-- The steps of items: a run of archives of one group is one step.
use Rattle.std.proofs.Common.{◌≡◌, ℕ, suc, ◌+◌, ◌<◌, ◌≤◌, get_or, drop-cons, ◌==◌, Bool, true, false, cond, List, [], ◌∷◌, length, take, drop, Option, Some, None, refl, sym, ◌∙◌, ap, subst, arith}
use Rattle.std.specs.Prelude.{All}
use Rattle.std.specs.Option.{option_map_or}
use Rattle.std.specs.List.{prefix_len}
use Rattle.std.proofs.lemmas.Bool.{eq-eqb, eqb-true, false≢true}
use Rattle.std.proofs.lemmas.List.{get_or_default}
use Rattle.std.proofs.lemmas.List.Sums.{prefix_len-le-length}
use Rattle.std.proofs.lemmas.List.Elements.{All-cons, All-nil}
use Rattle.elf_model.specs.Inputs.Command.{Plan}
use Rattle.elf_model.specs.Link.Loading.{Group, LoadedObject, Single, Step, before_steps, group_of, joined, loaded_step, loaded_steps, rounds, steps}
use Rattle.elf_model.specs.Inputs.Opening.{Opened}
use Rattle.elf_model.proofs.LoadingBounds.{Extends, by_case}
use Rattle.elf_model.proofs.LoadingSteps.{steps_behind}
use Rattle.elf_model.proofs.SameOutput.{both_ways_equal}
use Rattle.opening.specs.Steps.{in_group}

same_number : (a b : ℕ) → (a == b) ≡ (b == a)
same_number a b = both_ways_equal (a == b) (b == a) (λ e. eq-eqb b a (sym (eqb-true a b e))) (λ e. eq-eqb a b (sym (eqb-true b a e)))

-- the step that a run makes, and those behind it
run_step : ℕ → Opened → List Opened → ℕ → List Step
run_step g o os n = Group g (o ∷ take n os) ∷ steps (drop n os)

steps_run_from : (g : ℕ) (o : Opened) (os : List Opened) → joined o g (steps os) ≡ run_step g o os (prefix_len (in_group g) os)
unfolding run_step
steps_run_from g o [] = refl
steps_run_from g o (p ∷ ps) = by (group_of p) refl (λ h. steps_run_from h p ps)
  where
    front : (b : Bool) → in_group g p ≡ b → prefix_len (in_group g) (p ∷ ps) ≡ cond b (1 + prefix_len (in_group g) ps) 0
    front b is = ap (λ (c : Bool). cond c (1 + prefix_len (in_group g) ps) 0) is

    other : (later : List Step) → steps (p ∷ ps) ≡ later → in_group g p ≡ false → Group g (o ∷ []) ∷ later ≡ run_step g o (p ∷ ps) (prefix_len (in_group g) (p ∷ ps))
    other later is fails = ap (λ (l : List Step). Group g (o ∷ []) ∷ l) (sym is) ∙ ap (run_step g o (p ∷ ps)) (sym (front false fails))

    by : (found : Option ℕ) → group_of p ≡ found → ((h : ℕ) → joined p h (steps ps) ≡ run_step h p ps (prefix_len (in_group h) ps)) →
        joined o g (steps (p ∷ ps)) ≡ run_step g o (p ∷ ps) (prefix_len (in_group g) (p ∷ ps))
    by None is rest =
        let single : steps (p ∷ ps) ≡ Single p ∷ steps ps = ap (λ (f : Option ℕ). before_steps p f (steps ps)) is in
        ap (joined o g) single ∙ other (Single p ∷ steps ps) single (ap (λ (f : Option ℕ). option_map_or (λ h. h == g) f false) is)
    by (Some h) is rest =
        let group : steps (p ∷ ps) ≡ run_step h p ps (prefix_len (in_group h) ps) = ap (λ (f : Option ℕ). before_steps p f (steps ps)) is ∙ rest h in
        ap (joined o g) group ∙ by_case (g == h) (same group) (apart group)
      where
        joined_run : ℕ → List Step
        joined_run m = Group g (o ∷ (p ∷ take m ps)) ∷ steps (drop m ps)

        known : in_group g p ≡ (h == g)
        known = ap (λ (f : Option ℕ). option_map_or (λ k. k == g) f false) is

        same : steps (p ∷ ps) ≡ run_step h p ps (prefix_len (in_group h) ps) → (g == h) ≡ true →
            joined o g (run_step h p ps (prefix_len (in_group h) ps)) ≡ run_step g o (p ∷ ps) (prefix_len (in_group g) (p ∷ ps))
        same group e =
            let alike : g ≡ h = eqb-true g h e in
            let inside : in_group g p ≡ true = known ∙ (same_number h g ∙ e) in
            let count : suc (prefix_len (in_group g) ps) ≡ 1 + prefix_len (in_group g) ps = omega arith in
            ap (λ (b : Bool). cond b (joined_run (prefix_len (in_group h) ps)) (Group g (o ∷ []) ∷ run_step h p ps (prefix_len (in_group h) ps))) e
            ∙ (ap (λ (k : ℕ). joined_run (prefix_len (in_group k) ps)) (sym alike)
            ∙ ap (run_step g o (p ∷ ps)) (count ∙ sym (front true inside)))

        apart : steps (p ∷ ps) ≡ run_step h p ps (prefix_len (in_group h) ps) → (g == h) ≡ false →
            joined o g (run_step h p ps (prefix_len (in_group h) ps)) ≡ run_step g o (p ∷ ps) (prefix_len (in_group g) (p ∷ ps))
        apart group e =
            ap (λ (b : Bool). cond b (joined_run (prefix_len (in_group h) ps)) (Group g (o ∷ []) ∷ run_step h p ps (prefix_len (in_group h) ps))) e
            ∙ other (run_step h p ps (prefix_len (in_group h) ps)) group (known ∙ (same_number h g ∙ e))

pub steps_run : (g : ℕ) (o : Opened) (os : List Opened) → group_of o ≡ Some g →
    steps (o ∷ os) ≡ Group g (take (prefix_len (in_group g) (o ∷ os)) (o ∷ os)) ∷ steps (drop (prefix_len (in_group g) (o ∷ os)) (o ∷ os))
unfolding run_step
steps_run g o os is =
    let inside : in_group g o ≡ true = ap (λ (f : Option ℕ). option_map_or (λ h. h == g) f false) is ∙ eq-eqb g g refl in
    let count : suc (prefix_len (in_group g) os) ≡ 1 + prefix_len (in_group g) os = omega arith in
    let counted = count ∙ sym (ap (λ (b : Bool). cond b (1 + prefix_len (in_group g) os) 0) inside) in
    ap (λ (f : Option ℕ). before_steps o f (steps os)) is
    ∙ (steps_run_from g o os ∙ ap (λ (n : ℕ). Group g (take n (o ∷ os)) ∷ steps (drop n (o ∷ os))) counted)

-- an archive of a group is an archive
pub archive_of_group : (g : ℕ) (o : Opened) → in_group g o ≡ true → o.archive ≡ true
archive_of_group g o is = by_case o.archive (λ a. a) (λ a. absurd (false≢true (sym (ap (λ (b : Bool). option_map_or (λ h. h == g) (cond b o.group None) false) a) ∙ is)))

pub run_archives : (g : ℕ) (os : List Opened) → All (λ o. o.archive ≡ true) (take (prefix_len (in_group g) os) os)
run_archives g [] = All-nil (λ o. o.archive ≡ true)
run_archives g (o ∷ os) = by (in_group g o) refl (run_archives g os)
  where
    by : (b : Bool) → in_group g o ≡ b → All (λ x. x.archive ≡ true) (take (prefix_len (in_group g) os) os) →
        All (λ x. x.archive ≡ true) (take (prefix_len (in_group g) (o ∷ os)) (o ∷ os))
    by true is rest =
        let count : suc (prefix_len (in_group g) os) ≡ 1 + prefix_len (in_group g) os = omega arith in
        let counted = count ∙ sym (ap (λ (b : Bool). cond b (1 + prefix_len (in_group g) os) 0) is) in
        subst (λ (n : ℕ). All (λ x. x.archive ≡ true) (take n (o ∷ os))) counted
        (All-cons (λ x. x.archive ≡ true) o (take (prefix_len (in_group g) os) os) (archive_of_group g o is) rest)
    by false is rest =
        subst (λ (n : ℕ). All (λ x. x.archive ≡ true) (take n (o ∷ os))) (sym (ap (λ (b : Bool). cond b (1 + prefix_len (in_group g) os) 0) is))
        (All-nil (λ x. x.archive ≡ true))

-- The first step of items.
module _ (plan : Plan) (os : List LoadedObject) (xs : List Opened) (o : Opened) (some : 0 < length xs) (is : o ≡ get_or xs 0 o) where
  first : xs ≡ o ∷ drop 1 xs
  first = drop-cons xs 0 o some ∙ ap (λ (x : Opened). x ∷ drop 1 xs) (sym is)

  pub single_first : None ≡ group_of o → loaded_steps plan (steps xs) os ≡ loaded_steps plan (steps (drop 1 xs)) (loaded_step plan (Single o) os)
  single_first alone =
      ap (λ (l : List Opened). loaded_steps plan (steps l) os) first
      ∙ ap (λ (f : Option ℕ). loaded_steps plan (before_steps o f (steps (drop 1 xs))) os) (sym alone)

  pub group_first : (g : ℕ) → Some g ≡ group_of o →
      loaded_steps plan (steps xs) os ≡ loaded_steps plan (steps (drop (prefix_len (in_group g) xs) xs)) (rounds plan (take (prefix_len (in_group g) xs) xs) os)
  group_first g grouped =
      subst
      (λ (l : List Opened). loaded_steps plan (steps l) os ≡ loaded_steps plan (steps (drop (prefix_len (in_group g) l) l)) (rounds plan (take (prefix_len (in_group g) l) l) os))
      (sym first) (ap (λ (ss : List Step). loaded_steps plan ss os) (steps_run g o (drop 1 xs) (sym grouped)))

  pub single_later : None ≡ group_of o → Extends (loaded_step plan (Single o) os) (loaded_steps plan (steps xs) os)
  single_later alone =
      subst (Extends (loaded_step plan (Single o) os)) (sym (single_first alone)) (steps_behind plan (steps (drop 1 xs)) (loaded_step plan (Single o) os))

  pub group_later : (g : ℕ) → Some g ≡ group_of o → (run : List Opened) → run ≡ take (prefix_len (in_group g) xs) xs →
      Extends (rounds plan run os) (loaded_steps plan (steps xs) os)
  group_later g grouped run taken =
      subst (λ (l : List Opened). Extends (rounds plan l os) (loaded_steps plan (steps xs) os)) (sym taken)
      (subst (Extends (rounds plan (take (prefix_len (in_group g) xs) xs) os)) (sym (group_first g grouped))
      (steps_behind plan (steps (drop (prefix_len (in_group g) xs) xs)) (rounds plan (take (prefix_len (in_group g) xs) xs) os)))

pub run_within : (g : ℕ) (xs : List Opened) → prefix_len (in_group g) xs ≤ length xs
run_within g xs = prefix_len-le-length (in_group g) xs

-- two readings of the first item
pub same_first : (xs : List Opened) (x y : Opened) → 0 < length xs → x ≡ get_or xs 0 x → y ≡ get_or xs 0 y → x ≡ y
same_first xs x y some first second = first ∙ (get_or_default xs 0 x y some ∙ sym second)
