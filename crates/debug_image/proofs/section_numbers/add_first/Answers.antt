use Rattle.std.proofs.Common.{◌≡◌, ◌∙◌, ◌≤◌, ◌<◌, ℕ, Option, None, Some, ap, cond, refl, subst, sym}
use Rattle.std.specs.Borrow.{Bor}
use Rattle.std.specs.Option.{is_some, option_copied}
use Rattle.indexmap.specs.IndexMap.{get}
use Rattle.elf_model.specs.Link.Pieces.{Piece}
use Rattle.resolve.specs.OutputSections.{output_of}
use Rattle.resolve.proofs.OutputKeys.{key_eq}
use Rattle.debug_image.proofs.FirstSections.{first_known, first_new, first_other}
use Rattle.debug_image.proofs.section_numbers.add_first.Goals as goal

pub returns-then-first-count : goal.returns-then-first-count
returns-then-first-count c = λ ss s of_s is are.
    first_other c.args.count ss s c.args.firsts.now are (subst (λ (n : ℕ). c.args.count ≤ n) (sym (ap (λ (p : Piece). p.object) of_s)) c.if-first-count.true)

copied_some : {X : Type 0} (r : Option (Bor X)) → is_some (option_copied r) ≡ is_some r
copied_some None = refl
copied_some (Some x) = refl

pub returns-then-is_some : goal.returns-then-is_some
returns-then-is_some c = λ ss s of_s is are.
    first_known c.args.count ss s c.args.firsts.now are c.output_of-output.result (c.output_of-output.ensures ∙ ap output_of (sym of_s))
    (ap is_some (sym c.get.ensures.value) ∙ (copied_some c.get.result ∙ sym c.if-is_some.ensures))

pub returns : goal.returns
returns c = λ ss s of_s is are.
    let key = c.output_of-output.result in
    first_new c.args.count ss s c.args.firsts.now are key c.insert.new.self (c.output_of-output.ensures ∙ ap output_of (sym of_s))
    (subst (λ (n : ℕ). n < c.args.count) (sym (ap (λ (p : Piece). p.object) of_s)) c.if-first-count.false)
    (ap is_some (sym c.get.ensures.value) ∙ (copied_some c.get.result ∙ sym c.if-is_some.ensures))
    (λ k. c.in_ok-insert.ensures.updates.0 k ∙ ap (λ (n : ℕ). cond (key_eq key k) (Some n) (get key_eq c.args.firsts.now k)) is)
