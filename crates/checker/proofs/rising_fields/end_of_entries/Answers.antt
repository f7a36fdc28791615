use Rattle.std.proofs.Common.{◌+◌, ap, drop, map, sym, ◌∙◌, arith}
use Rattle.check_load.specs.KeptRelocations.{entries_behind, relocations_of_rela}
use Rattle.check_load.proofs.KeptRelocationLaws.{entries_ended, entry_told}
use Rattle.check_relocs.specs.Referrers.{object_here, relocation_here}
use Rattle.elf_model.specs.declared.records.Rela.{Rela}
use Rattle.std.specs.Prelude.{List}
use Rattle.checker.proofs.RisingFields.{all_left, left_more, left_none}
use Rattle.checker.proofs.rising_fields.end_of_entries.Goals as goal

pub loop-number-init : goal.loop-number-init
loop-number-init c =
    let h = c.args.here.now in
    let k = c.args.rela.now in
    record {
      known = c.requires;
      left =
          all_left h c.args.held.now c.args.bytes.now c.args.from (map (relocation_here h) (relocations_of_rela (object_here h).bytes k)) _
          (ap (λ (es : List Rela). map (relocation_here h) (entries_behind k 0 es)) c.entries-entries.ensures);
    }

pub loop-number-preserved : goal.loop-number-preserved
loop-number-preserved c =
    let h = c.args.here.now in
    let k = c.args.rela.now in
    let es = c.entries-entries.result in
    let i = c.loop-number.number in
    let told = entry_told k es i c.at-entry.result (omega (arith, c.loop-number-test.true, c.len-number-end.ensures)) c.at-entry.ensures
    (sym c.is_some_kind.ensures ∙ c.if-not-is_some_kind.false) in
    record {
      known = c.end_of_field.ensures.kept;
      left =
          left_more h c.args.held.now c.args.bytes.now c.args.from (map (relocation_here h) (relocations_of_rela (object_here h).bytes k))
          (map (relocation_here h) (entries_behind k i (drop i es))) c.loop-number.end c.loop-number.invariant.left _
          (map (relocation_here h) (entries_behind k (i + 1) (drop (i + 1) es))) c.in-Some.next
          (ap (map (relocation_here h)) told) c.in-Some.ensures.right c.in-Some.ensures.matched;
    }

pub returns-clause-matched : goal.returns-clause-matched
returns-clause-matched c =
    let h = c.args.here.now in
    let k = c.args.rela.now in
    let es = c.entries-entries.result in
    let i = c.loop-number.number in
    (left_none h c.args.held.now c.args.bytes.now c.args.from (map (relocation_here h) (relocations_of_rela (object_here h).bytes k))
    (map (relocation_here h) (entries_behind k i (drop i es))) c.loop-number.end c.loop-number.invariant.left
    (ap (map (relocation_here h)) (entries_ended k es i (omega (arith, c.loop-number-test.false, c.len-number-end.ensures))))).1
