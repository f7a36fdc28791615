use Rattle.std.proofs.Common.{ap, subst, sym, ◌∙◌}
use Rattle.std.specs.Prelude.{All, AllPairs}
use Rattle.std.proofs.lemmas.Bool.{false≢true}
use Rattle.elf_model.specs.Link.Relocation.{relocations_from}
use Rattle.elf_model.proofs.RelocationFields.{own_object}
use Rattle.elf_model.proofs.Pairs.{AllPairs-map, AllPairs-unmap}
use Rattle.elf_model.proofs.OwnFields.{apart_of_ranges, ranges_of_apart}
use Rattle.relocate.specs.SymbolTables.{all_of, referring}
use Rattle.relocate.proofs.ObjectFields.{some_fields}
use Rattle.relocate.proofs.FieldRuns.{run_apart}
use Rattle.relocate.specs.Fields.{AreApart, IsSome, field_of}
use Rattle.relocate.specs.declared.field_run.FieldRun.{FieldRun}
use Rattle.relocate.proofs.lawful_relocations.judge_referrer.Goals as goal

pub are_apart-requires : goal.are_apart-requires
are_apart-requires c =
    subst (All IsSome) (sym c.in_ok-list_fields.ensures)
    (some_fields (all_of c.args.referrer.now) (relocations_from c.args.referrer.now.number (referring c.args.referrer.now)) c.in_ok-judge_fields.ensures.lawful)

pub returns-then-not-branch-clause-fault : goal.returns-then-not-branch-clause-fault
returns-then-not-branch-clause-fault c = λ pairs.
    let n = c.args.referrer.now.number in
    let o = referring c.args.referrer.now in
    let rs = relocations_from n o in
    let apart = AllPairs-map AreApart field_of rs (ranges_of_apart n rs (own_object n o) pairs) in
    false≢true (sym c.if-not-branch.true ∙ c.in_ok-are_apart.ensures.1 (subst (AllPairs AreApart) (sym c.in_ok-list_fields.ensures) apart))

pub returns-then-run-clause-lawful : goal.returns-then-run-clause-lawful
returns-then-run-clause-lawful c =
    let L = all_of c.args.referrer.now in
    let rs = relocations_from c.args.referrer.now.number (referring c.args.referrer.now) in
    let judged = c.in_ok-judge_fields.ensures in
    record {
      each = judged.lawful;
      apart =
          apart_of_ranges rs
          (AllPairs-unmap AreApart field_of rs
          (run_apart c.start-run.result rs (some_fields L rs judged.lawful) (sym (ap (λ (x : FieldRun). x.rises) judged.run) ∙ c.if-run.true)));
    }

pub returns-clause-lawful : goal.returns-clause-lawful
returns-clause-lawful c =
    let rs = relocations_from c.args.referrer.now.number (referring c.args.referrer.now) in
    record {
      each = c.in_ok-judge_fields.ensures.lawful;
      apart =
          apart_of_ranges rs
          (AllPairs-unmap AreApart field_of rs
          (subst (AllPairs AreApart) c.in_ok-list_fields.ensures (c.in_ok-are_apart.ensures.0 c.if-not-branch.false)));
    }
