use Rattle.std.proofs.Common.{◌≡◌, ◌∙◌, Bool, List, ℕ, Option, Some, ap, refl, sym, cond, drop}
use Rattle.std.specs.Option.{option_map_or}
use Rattle.std.specs.Prelude.{None, option_map}
use Rattle.std.proofs.lemmas.Option.{same_Some}
use Rattle.elf_model.specs.Link.LinkerNames.{ArrayName, array_named, is_start_name, named_output}
use Rattle.check_link.specs.Views.{held}
use Rattle.check_link.proofs.linker_names.named_output.Goals as goal
use Rattle.check_link.proofs.linker_names.named_output.Goals.{then-is_start_name, else-is_start_name}

-- where a look-up has a part, and where it has none
or_found : (o : Option ArrayName) (x rest : List ℕ) → Some x ≡ option_map (λ b. b.output) o → x ≡ option_map_or (λ b. b.output) o rest
or_found None x rest e = absurd (cc)
or_found (Some b) x rest e = same_Some x b.output e

or_else : (o : Option ArrayName) (rest : List ℕ) → None ≡ option_map (λ b. b.output) o → rest ≡ option_map_or (λ b. b.output) o rest
or_else None rest e = refl
or_else (Some b) rest e = absurd (cc)

pub returns-in-Some : goal.returns-in-Some
unfolding named_output
returns-in-Some c =
    let name = c.args.name.now in
    or_found (array_named name) c.in-Some.output.now (cond (is_start_name name) (drop 8 name) (drop 7 name))
    (sym (ap (option_map held) c.in-Some.is) ∙ c.array_output.ensures)

pub returns-after-is_start_name : goal.returns-after-is_start_name
unfolding named_output
returns-after-is_start_name c =
    let name = c.args.name.now in
    let rest : c.behind.result.now ≡ cond (is_start_name name) (drop 8 name) (drop 7 name) =
    elim c.if-is_start_name.branch [
      | then-is_start_name w ↦
          c.behind.ensures
          ∙ ap (λ (k : ℕ). drop k name) w.prefix-is
          ∙ sym (ap (λ (b : Bool). cond b (drop 8 name) (drop 7 name)) (sym c.is_start_name.ensures ∙ w.if-is_start_name.true))
      | else-is_start_name w ↦
          c.behind.ensures
          ∙ ap (λ (k : ℕ). drop k name) w.prefix-is
          ∙ sym (ap (λ (b : Bool). cond b (drop 8 name) (drop 7 name)) (sym c.is_start_name.ensures ∙ w.if-is_start_name.false))
    ] in
    rest ∙ or_else (array_named name) (cond (is_start_name name) (drop 8 name) (drop 7 name)) (sym (ap (option_map held) c.in-None.is) ∙ c.array_output.ensures)
