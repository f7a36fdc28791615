use Rattle.std.proofs.Common.{◌≡◌, ℕ, true, cond, List, [], ◌∷◌, ◌++◌, ap, ◌∙◌, sym, subst, string_bytes, arith}
use Rattle.std.specs.BTreeSet.{contains_text}
use Rattle.std.specs.Str.{bytes_eq}
use Rattle.std.proofs.lemmas.List.{map-append}
use Rattle.std.proofs.lemmas.Map.Text.{btree_set_updates_text}
use Rattle.elf_model.specs.Inputs.Files.{words_of}
use Rattle.command.specs.Candidates.{HasTexts}
use Rattle.command.proofs.Distinct.{has_more}
use Rattle.command.proofs.paths.Found.add.Goals as goal

pub invariant_of-self-in_ok-push : goal.invariant_of-self-in_ok-push
invariant_of-self-in_ok-push c =
    let xs : List (List ℕ) = words_of c.self.inside.paths.items in
    let y : List ℕ = string_bytes c.args.path in
    let same : string_bytes c.in_ok-clone.field-0 ≡ y = c.in_ok-clone.ensures.cases in
    let now : (x : List ℕ) → contains_text c.insert.new.self x ≡ cond (bytes_eq y x) true (contains_text c.self.inside.seen x) =
    λ x. btree_set_updates_text (string_bytes c.in_ok-clone.field-0) c.self.inside.seen c.insert.new.self true c.in_ok-insert.ensures.updates x ∙ ap (λ w. cond (bytes_eq w x) true (contains_text c.self.inside.seen x)) same in
    let pushed : c.push.new.self.items ≡ c.self.inside.paths.items ++ c.args.path ∷ [] = c.in_ok-push.ensures.items ∙ ap (λ ps. ps ++ c.args.path ∷ []) c.in_ok-reserve.ensures.items in
    let grown : xs ++ y ∷ [] ≡ words_of c.push.new.self.items = sym (ap words_of pushed ∙ map-append string_bytes c.self.inside.paths.items (c.args.path ∷ [])) in
    subst (λ zs. HasTexts c.insert.new.self zs) grown (has_more c.self.inside.seen c.insert.new.self xs y c.self.invariant now)

pub invariant_of-self-in_err-push : goal.invariant_of-self-in_err-push
invariant_of-self-in_err-push c = absurd (omega (arith, c.in_err-push.ensures.full, c.in_ok-reserve.ensures.ok))
