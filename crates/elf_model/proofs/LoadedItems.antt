-- The objects among a command's items are loaded.
use Rattle.std.proofs.Common.{◌≡◌, ℕ, ◌==◌, ◌⊎◌, inl, inr, Bool, true, false, cond, List, [], ◌∷◌, Option, Some, None, refl, sym, subst}
use Rattle.std.specs.Prelude.{Contains}
use Rattle.std.proofs.lemmas.Bool.{cond-false}
use Rattle.std.proofs.lemmas.List.Elements.{Contains-append_left, Contains-append_right}
use Rattle.elf_model.specs.Inputs.Command.{Plan}
use Rattle.elf_model.specs.Inputs.Files.{File}
use Rattle.elf_model.specs.Link.Loading.{Group, LoadedObject, Single, Step, before_steps, group_of, loaded_objects, loaded_step, loaded_steps, object_behind, steps, turn, with_object}
use Rattle.elf_model.specs.Inputs.Opening.{Opened, opened}
use Rattle.elf_model.proofs.Listed.{Contains-cons_cases, Contains-here, Contains-nil, Contains-there}
use Rattle.elf_model.proofs.LoadingSteps.{steps_behind}

-- a step that isn't a group stays behind an item that joins the steps
stays : (o p : Opened) (found : Option ℕ) (ss : List Step) → Contains ss (Single o) → Contains (before_steps p found ss) (Single o)
stays o p None ss c = Contains-there (Single p) ss (Single o) c
stays o p (Some g) [] c = absurd (Contains-nil (Single o) c)
stays o p (Some g) (Single q ∷ ss) c = Contains-there (Group g (p ∷ [])) (Single q ∷ ss) (Single o) c
stays o p (Some g) (Group h os ∷ ss) c = by (g == h) (Contains-cons_cases (Group h os) ss (Single o) c)
  where
    by : (b : Bool) → (Group h os ≡ Single o) ⊎ Contains ss (Single o) → Contains (cond b (Group g (p ∷ os) ∷ ss) (Group g (p ∷ []) ∷ (Group h os ∷ ss))) (Single o)
    by b (inl same) = absurd cc
    by true (inr later) = Contains-there (Group g (p ∷ os)) ss (Single o) later
    by false (inr later) = Contains-there (Group g (p ∷ [])) (Group h os ∷ ss) (Single o) (Contains-there (Group h os) ss (Single o) later)

single_step : (os : List Opened) (o : Opened) → o.archive ≡ false → Contains os o → Contains (steps os) (Single o)
single_step [] o alone c = absurd (Contains-nil o c)
single_step (p ∷ ps) o alone c = by (Contains-cons_cases p ps o c) (λ later. single_step ps o alone later)
  where
    here : Contains (steps (o ∷ ps)) (Single o)
    here =
        subst (λ (f : Option ℕ). Contains (before_steps o f (steps ps)) (Single o)) (sym (cond-false o.archive o.group None alone))
        (Contains-here (steps ps) (Single o))

    by : (p ≡ o) ⊎ Contains ps o → (Contains ps o → Contains (steps ps) (Single o)) → Contains (steps (p ∷ ps)) (Single o)
    by (inl same) rest = subst (λ (q : Opened). Contains (steps (q ∷ ps)) (Single o)) (sym same) here
    by (inr later) rest = stays o p (group_of p) (steps ps) (rest later)

-- an object with some bytes is loaded
abbrev pub HasLoaded : List ℕ → List LoadedObject → Type 0
HasLoaded bytes objects = (x : LoadedObject) × (x.bytes ≡ bytes) × Contains objects x

loaded_by_steps : (plan : Plan) (ss : List Step) (o : Opened) (from : List LoadedObject) → o.archive ≡ false → Contains ss (Single o) →
    HasLoaded o.bytes (loaded_steps plan ss from)
loaded_by_steps plan [] o from alone c = absurd (Contains-nil (Single o) c)
loaded_by_steps plan (s ∷ ss) o from alone c = by (Contains-cons_cases s ss (Single o) c) (λ later. loaded_by_steps plan ss o (loaded_step plan s from) alone later)
  where
    x : LoadedObject
    x = object_behind from o 0 o.bytes

    now : Contains (loaded_step plan (Single o) from) x
    now =
        subst (λ (l : List LoadedObject). Contains l x) (sym (cond-false o.archive (turn plan o from) (with_object from o 0 o.bytes) alone))
        (Contains-append_right from (x ∷ []) x (Contains-here [] x))

    first : HasLoaded o.bytes (loaded_steps plan ss (loaded_step plan (Single o) from))
    first =
        let later = steps_behind plan ss (loaded_step plan (Single o) from) in
        (x, refl, subst (λ (l : List LoadedObject). Contains l x) (sym later.1) (Contains-append_left (loaded_step plan (Single o) from) later.0 x now))

    by : (s ≡ Single o) ⊎ Contains ss (Single o) → (Contains ss (Single o) → HasLoaded o.bytes (loaded_steps plan ss (loaded_step plan s from))) →
        HasLoaded o.bytes (loaded_steps plan (s ∷ ss) from)
    by (inl same) rest = subst (λ (t : Step). HasLoaded o.bytes (loaded_steps plan ss (loaded_step plan t from))) (sym same) first
    by (inr later) rest = rest later

pub item_loaded : (files : List File) (plan : Plan) (o : Opened) → o.archive ≡ false → Contains (opened files plan) o → HasLoaded o.bytes (loaded_objects files plan)
unfolding loaded_objects
item_loaded files plan o alone c = loaded_by_steps plan (steps (opened files plan)) o [] alone (single_step (opened files plan) o alone c)
