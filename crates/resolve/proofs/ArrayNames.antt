-- What the names of arrays' boundaries stand for, by what the code has of them.
use Rattle.std.proofs.Common.{◌≡◌, ℕ, Bool, cond, List, refl, sym, ◌∙◌, ap, Option, None, Some, option_map}
use Rattle.std.specs.Prelude.{drop, find}
use Rattle.std.specs.Borrow.{Bor}
use Rattle.std.specs.Option.{option_map_or, option_or}
use Rattle.std.specs.Str.{bytes_eq}
use Rattle.elf_model.specs.Link.LinkerNames.{ArrayName, array_named, bound_names, fixed_bound, is_start_name, named_output}
use Rattle.elf_model.specs.declared.bound.Bound.{Bound}
use Rattle.resolve.specs.Outputs.{array_facts, array_view}

facts_bound : (o : Option ArrayName) → option_map (λ (p : Bound × List ℕ). p.0) (option_map array_facts o) ≡ option_map (λ a. a.bound) o
facts_bound None = refl
facts_bound (Some a) = refl

facts_output :
    (o : Option ArrayName) (d : List ℕ) →
    option_map_or (λ (p : Bound × List ℕ). p.1) (option_map array_facts o) d ≡ option_map_or (λ a. a.output) o d
facts_output None d = refl
facts_output (Some a) d = refl

module _ (name : List ℕ) (r : Option (Bound × Bor (List ℕ))) (told : option_map array_view r ≡ option_map array_facts (array_named name)) where
  -- no boundary of the image has the name
  module _ (none : option_map (λ b. b.bound) (find (λ b. bytes_eq b.name name) bound_names) ≡ None) where
    fixed : fixed_bound name ≡ option_map (λ p. p.0) (option_map array_view r)
    unfolding fixed_bound
    fixed =
        ap (λ (o : Option Bound). option_or o (option_map (λ a. a.bound) (array_named name))) none
        ∙ sym (facts_bound (array_named name))
        ∙ ap (option_map (λ (p : Bound × List ℕ). p.0)) (sym told)

    pub fixed_some : (bound : Bound) (output : Bor (List ℕ)) → r ≡ Some (bound, output) → Some bound ≡ fixed_bound name
    fixed_some bound output is = sym (fixed ∙ ap (λ (o : Option (Bound × Bor (List ℕ))). option_map (λ (p : Bound × List ℕ). p.0) (option_map array_view o)) is)

    pub fixed_none : r ≡ None → None ≡ fixed_bound name
    fixed_none is = sym (fixed ∙ ap (λ (o : Option (Bound × Bor (List ℕ))). option_map (λ (p : Bound × List ℕ). p.0) (option_map array_view o)) is)

  outputs : named_output name ≡ option_map_or (λ p. p.1) (option_map array_view r) (cond (is_start_name name) (drop 8 name) (drop 7 name))
  unfolding named_output
  outputs =
      sym (facts_output (array_named name) (cond (is_start_name name) (drop 8 name) (drop 7 name)))
      ∙ ap (λ (o : Option (Bound × List ℕ)). option_map_or (λ (p : Bound × List ℕ). p.1) o (cond (is_start_name name) (drop 8 name) (drop 7 name))) (sym told)

  pub output_some : (bound : Bound) (output : Bor (List ℕ)) → r ≡ Some (bound, output) → output.now ≡ named_output name
  output_some bound output is =
      sym (outputs ∙ ap (λ (o : Option (Bound × Bor (List ℕ))). option_map_or (λ (p : Bound × List ℕ). p.1) (option_map array_view o) (cond (is_start_name name) (drop 8 name) (drop 7 name))) is)

  pub output_none : r ≡ None → (b : Bool) → b ≡ is_start_name name → (text : List ℕ) → text ≡ cond b (drop 8 name) (drop 7 name) → text ≡ named_output name
  output_none is b start text at =
      at
      ∙ ap (λ t. cond t (drop 8 name) (drop 7 name)) start
      ∙ sym (outputs ∙ ap (λ (o : Option (Bound × Bor (List ℕ))). option_map_or (λ (p : Bound × List ℕ). p.1) (option_map array_view o) (cond (is_start_name name) (drop 8 name) (drop 7 name))) is)
