use Rattle.std.proofs.Common.{◌≡◌, ◌<◌, ℕ, List, arith, subst, sym}
use Rattle.std.specs.Prelude.{Any, IsTrue, filter, find, slice_index, ◌↔◌}
use Rattle.std.proofs.lemmas.Bool.{false≢true}
use Rattle.elf_model.specs.Image.MemoryImage.{Encloses, loads}
use Rattle.check_relocs.specs.Bytes.{byte_of, covers, is_of}
use Rattle.check_link.specs.Views.{placed_view}
use Rattle.check_relocs.specs.declared.fields.Field.{Field}
use Rattle.checker.proofs.Runs.{held_by_run}
use Rattle.checker.proofs.c10_bytes.holds_piece.Goals as goal

pub returns-in-Some : goal.returns-in-Some
returns-in-Some c =
    let q = placed_view c.args.placed.now in
    let size = c.load_size-size.result in
    let run = c.in-Some.held in
    let fs = filter (is_of q.piece.section) c.args.row.now in
    let wanted : List Field → ℕ → ℕ = λ gs k. byte_of q.piece.bytes k (find (covers k) gs) in
    let both =
    held_by_run c.args.memory.now q.at size run.bytes.now run.zeros (wanted fs) c.has_wanted.result c.in-Some.ensures.run
    (subst (λ (gs : List Field). IsTrue c.has_wanted.result ↔ ((k : ℕ) → k < size → slice_index run.bytes.now k ≡ wanted gs k))
    c.part_of-fields.ensures.fields c.has_wanted.ensures) in
    let is = c.load_size-size.ensures in (
      λ e. record { bytes = λ k below. both.0 e k (omega (arith, below, is)) },
      λ held. both.1 (λ k below. held.bytes k (omega (arith, below, is))),
    )

pub returns-in-None : goal.returns-in-None
returns-in-None c =
    let q = c.args.placed.now in
    let size = c.load_size-size.result in
    let is = c.load_size-size.ensures in
    absurd
    (false≢true
    (c.in-None.ensures.found.1
    (subst (λ (n : ℕ). Any (λ h. Encloses h q.at n) (loads c.args.memory.now)) (sym is)
    (c.requires.whole.encloses (let n = c.if-size-eq0.false in omega (arith, n, is))))))
