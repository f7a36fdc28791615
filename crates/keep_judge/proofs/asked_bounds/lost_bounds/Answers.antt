use Rattle.std.proofs.Common.{◌≡◌, ◌∙◌, inl, inr, ℕ, Bool, List, ap, arith, length, sym}
use Rattle.std.proofs.lemmas.Bool.{cases_lt}
use Rattle.std.proofs.lemmas.List.{get_or_past}
use Rattle.check_load.specs.Views.{loaded_view}
use Rattle.elf_model.specs.Inputs.ObjectFile.{symbols}
use Rattle.elf_model.specs.Link.Relocation.{symbol_at}
use Rattle.elf_model.specs.Marks.{is_marked}
use Rattle.elf_model.specs.declared.records.Symbol.{Symbol}
use Rattle.keep_judge.specs.Collected.{has_name, is_bound_lost}
use Rattle.keep_judge.proofs.GroupMarks.{longer, past_lost, pushed}
use Rattle.keep_judge.proofs.asked_bounds.lost_bounds.Goals as goal

pub loop-j-preserved : goal.loop-j-preserved
loop-j-preserved c =
    let S : ℕ → Bool = λ i. is_bound_lost c.args.names.now (has_name c.args.lost.now) (symbol_at c.args.number (loaded_view c.args.loaded.now) i) in
    let items = c.in_ok-push.ensures.items in
    let xs = c.loop-j.marks.items in record {
      len = ap (λ (ms : List Bool). length ms) items ∙ longer xs c.is_bound_lost.result c.loop-j.j c.loop-j.invariant.len;
      told = λ i low.
          ap (λ (ms : List Bool). is_marked ms i) items
          ∙ pushed xs c.is_bound_lost.result c.loop-j.j S c.loop-j.invariant.len c.loop-j.invariant.told c.is_bound_lost.ensures i low;
    }

pub returns : goal.returns
returns c = λ j.
    let xs = c.loop-j.marks.items in
    let o = loaded_view c.args.loaded.now in
    let count : c.len-count.result ≡ length (symbols o.bytes) = c.len-count.ensures ∙ ap (λ (ss : List Symbol). length ss) c.symbols.ensures in
    let ends = c.loop-j-test.false in
    let starts = c.loop-j.auto.j-end in
    let len = c.loop-j.invariant.len in
    elim (cases_lt j c.loop-j.j) [
      | inl under ↦ c.loop-j.invariant.told j under
      | inr over ↦
          get_or_past xs j _ (omega (arith, over, len))
          ∙ sym (past_lost c.args.names.now (has_name c.args.lost.now) c.args.number o j (omega (arith, over, count, ends, starts)))
    ]
