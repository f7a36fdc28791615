use Rattle.std.proofs.Common.{◌≡◌, ◌∙◌, ◌&&◌, Bool, Option, Some, ap, sym, max, cond, rules, true}
use Rattle.std.specs.Prelude.{option_map, unwrap_or}
use Rattle.std.specs.BTreeMap.{get_by}
use Rattle.std.specs.Cmp.Lexicographic.{slice_cmp}
use Rattle.std.specs.Ordering.{nat_cmp}
use Rattle.std.proofs.lemmas.Map.Text.{btree_map_updates_str}
use Rattle.elf_model.specs.Link.Resolution.{has_name, is_common_definition}
use Rattle.check_link.specs.Commons.{asked_in, given_align, given_size}
use Rattle.check_link.specs.Views.{symbol_view}
use Rattle.check_link.specs.declared.commons.Asked.{Asked}
use Rattle.check_link.proofs.Asked.{asked_put}
use Rattle.check_link.proofs.commons.add_asked.Goals as goal

pub returns : goal.returns
returns c =
    let old = c.args.asked.now in
    let new = c.insert.new.self in
    let name = c.args.symbol.now.name.now in
    let s = symbol_view c.args.symbol.now in
    let counts : is_common_definition s ≡ true = sym c.is_common_definition.ensures ∙ c.if-not-is_common_definition.false in
    let before : c.copied-before.result ≡ get_by (λ k. slice_cmp nat_cmp name k.now) old = search rules in
    let put = btree_map_updates_str name old new (Some c.greater.result) c.in_ok-insert.ensures.updates in
    record {
      sizes = λ n.
          asked_put (λ a. a.size) old new name n c.greater.result s.entry.st_size (put n)
          (c.greater.ensures.size ∙ ap (λ (o : Option Asked). max (unwrap_or (option_map (λ a. a.size) o) 0) s.entry.st_size) before)
          ∙ ap (λ (b : Bool). max (asked_in (λ a. a.size) old n) (cond (b && has_name n s) (given_size s) 0)) (sym counts);
      aligns = λ n.
          asked_put (λ a. a.align) old new name n c.greater.result s.entry.st_value (put n)
          (c.greater.ensures.align ∙ ap (λ (o : Option Asked). max (unwrap_or (option_map (λ a. a.align) o) 0) s.entry.st_value) before)
          ∙ ap (λ (b : Bool). max (asked_in (λ a. a.align) old n) (cond (b && has_name n s) (given_align s) 0)) (sym counts);
    }
