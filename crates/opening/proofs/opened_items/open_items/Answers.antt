use Rattle.std.proofs.Common.{◌∙◌, List, ℕ, ap, refl, subst, sym, Option}
use Rattle.std.specs.Borrow.{Bor}
use Rattle.std.specs.Prelude.{IfSome, IsTrue, option_map}
use Rattle.ar_index.specs.FileBytes.{is_whole}
use Rattle.ar_index.specs.declared.file_bytes.FileBytes.{FileBytes}
use Rattle.opening.specs.Held.{all_files}
use Rattle.command.specs.Views.{texts_of}
use Rattle.elf_model.specs.Inputs.Files.{File}
use Rattle.opening.specs.Opened.{found_view}
use Rattle.opening.proofs.OpenedLaws.{files_step, items_step, missing, objects_step, opened_is}
use Rattle.std.proofs.lemmas.Bool.{false≢true}
use Rattle.opening.proofs.opened_items.open_items.Goals as goal

pub returns-in_default-clause-files : goal.returns-in_default-clause-files
returns-in_default-clause-files c = (
  λ never. absurd (false≢true never),
  λ all.
      absurd (missing (all_files c.args.files.now) (texts_of c.args.directories.now) c.args.items.now c.loop-i.i _ c.loop-i-test.true
      (sym (ap (λ (f : Option (Bor (List ℕ) × FileBytes)). option_map found_view f) c.in_default.is) ∙ c.in_ok-path.ensures.found) c.loop-i.invariant.files all),
)

pub loop-i-preserved : goal.loop-i-preserved
loop-i-preserved c =
    let f : File = found_view (c.in-Some.path, c.in-Some.bytes) in
    let is =
    opened_is (all_files c.args.files.now) (texts_of c.args.directories.now) c.loop-i.i _ f
    (sym (ap (λ (o : Option (Bor (List ℕ) × FileBytes)). option_map found_view o) c.in-Some.is) ∙ c.in_ok-path.ensures.found) in record {
      items =
          items_step (all_files c.args.files.now) (texts_of c.args.directories.now) c.args.items.now c.loop-i.i _ c.loop-i-test.true c.loop-i.opened.items c.push.new.self.items _ _
          c.in_ok-push.ensures.items (sym is.0) c.loop-i.invariant.items;
      objects = λ searched.
          objects_step c.args.files.now.parts (texts_of c.args.directories.now) c.args.items.now c.loop-i.i _ c.loop-i-test.true c.loop-i.opened.items c.push.new.self.items _ c.in-Some.bytes
          c.in_ok-push.ensures.items refl refl searched (c.loop-i.invariant.objects searched)
          (λ apart. subst (λ (o : Option (Bor (List ℕ) × FileBytes)). IfSome o (λ f. IsTrue (is_whole f.1))) c.in-Some.is (c.in_ok-path.ensures.whole apart));
      files =
          files_step (all_files c.args.files.now) (texts_of c.args.directories.now) c.args.items.now c.loop-i.i _ c.loop-i-test.true is.1 c.loop-i.invariant.files;
    }
