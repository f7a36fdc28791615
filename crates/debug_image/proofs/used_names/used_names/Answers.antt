use Rattle.std.proofs.Common.{◌+◌, ◌∷◌, [], ◌∙◌, ℕ, List, ap, get_or, length, subst, sym}
use Rattle.std.proofs.lemmas.List.{length-append}
use Rattle.elf_model.specs.Link.Meaning.{meaning}
use Rattle.debug_image.specs.DebugPlaces.{IsUseOf, data_at}
use Rattle.debug_image.specs.declared.data_places.Used.{Used}
use Rattle.debug_image.proofs.KeptSteps.{each_more}
use Rattle.debug_image.proofs.used_names.used_names.Goals as goal

pub loop-number-preserved : goal.loop-number-preserved
loop-number-preserved c =
    let d = data_at c.args.places.now in
    let names = c.args.loaded.now.names in
    let us = c.loop-number.table.items in
    let u = c.used_by_name.result in
    record {
      count = ap (λ (xs : List Used). length xs) c.in_ok-push.ensures.items ∙ (length-append us (u ∷ []) ∙ ap (λ (n : ℕ). n + 1) c.loop-number.invariant.count);
      each =
          each_more (λ (n : ℕ) (v : Used). IsUseOf d (meaning d.objects (get_or names n [])) v) us c.push.new.self.items u c.in_ok-push.ensures.items
          (subst (λ (n : ℕ). IsUseOf d (meaning d.objects (get_or names n [])) u) (sym c.loop-number.invariant.count)
          (subst (λ (name : List ℕ). IsUseOf d (meaning d.objects name) u) c.name.ensures c.used_by_name.ensures))
          c.loop-number.invariant.each;
    }
