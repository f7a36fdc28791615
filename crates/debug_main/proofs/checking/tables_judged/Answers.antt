use Rattle.std.proofs.Common.{◌≡◌, ◌⊎◌, List, ℕ, inl, inr, refl, subst, sym}
use Rattle.std.specs.Prelude.{None, Option, Some, false}
use Rattle.std.proofs.lemmas.Result.{IfOk-weaker}
use Rattle.elf_model.specs.declared.faults.LinkError.{LinkError}
use Rattle.elf_model.specs.Inputs.Files.{File, words_of}
use Rattle.opening.specs.Held.{held_files}
use Rattle.image_write.specs.Linkages.{Linked}
use Rattle.image_write.specs.Listings.{IsListing}
use Rattle.linker.specs.Linkages.{HasOwnLink, IsPrepared}
use Rattle.resolve.specs.Views.{meaning_views}
use Rattle.resolve.specs.declared.definition.Definition as code
use Rattle.debug_image.specs.DebugImage.{CanBeSaid, debug_file}
use Rattle.debug_image.specs.declared.debug_file.Wanted.{Wanted}
use Rattle.debug_main.specs.Verdicts.{Compares, IsNone, IsOther, IsToolImage, LacksSections, TellsTables, is_memory}
use Rattle.debug_main.specs.declared.verdict.DebugVerdict.{DebugVerdict}
use Rattle.debug_main.specs.declared.verdict.DebugVerdict.TheVariants as verdict
use Rattle.debug_main.specs.declared.verdict.Difference.{Difference}
use Rattle.debug_main.proofs.OneImage.{no_other}
use Rattle.debug_main.proofs.checking.tables_judged.Goals as goal

-- a difference is told of the image for tools
other :
    (files : List File) (words : List (List ℕ)) (w : Wanted) (image : List ℕ) (l : Linked) (d : Difference) → IsPrepared files words l → HasOwnLink files words l →
    ((names : List code.Definition) × IsListing l.objects names × CanBeSaid w l (meaning_views names) × Compares image (debug_file w l (meaning_views names)) (Some d)) → IsOther files words w image d
other files words w image l d prepared own made =
    let wanted : List ℕ = debug_file w l (meaning_views made.0) in
    let one : IsToolImage files words w wanted = record { link = l; names = made.0; prepared = prepared; own = own; listing = made.1; said = made.2; is = refl } in
    record { wanted = wanted; one = one; difference = made.3; none = no_other files words w image wanted d one made.3 }

-- that is told, or that there are no sections for tools
told :
    (files : List File) (words : List (List ℕ)) (w : Wanted) (image : List ℕ) (d : Difference) (r : Option Difference) → IsOther files words w image d →
    (r ≡ Some d) ⊎ ((r ≡ None) × LacksSections image) → IsNone files words w image r
told files words w image d r is (inl e) = subst (IsNone files words w image) (sym e) is
told files words w image d r is (inr e) = subst (IsNone files words w image) (sym e.0) (inl (e.1, d, is))

pub returns-in-Ok-Some : goal.returns-in-Ok-Some
returns-in-Ok-Some c =
    let files = held_files c.args.parts.now c.args.files.now in
    let words = words_of c.args.words.now in
    let made = subst (λ r. (names : List code.Definition) × IsListing c.in-Ok.linkage.objects names × CanBeSaid c.args.wanted c.in-Ok.linkage (meaning_views names) × Compares c.args.image.now (debug_file c.args.wanted c.in-Ok.linkage (meaning_views names)) r) c.in-Ok-Some.field-0-is c.in-Ok-Some.ensures.compared in
    told files words c.args.wanted c.args.image.now c.in-Ok-Some.at c.told.result
    (other files words c.args.wanted c.args.image.now c.in-Ok.linkage c.in-Ok-Some.at c.in-Ok.ensures.prepared c.in-Ok.ensures.right made) c.told.ensures

pub returns-in-Ok-None : goal.returns-in-Ok-None
returns-in-Ok-None c =
    let made = subst (λ r. (names : List code.Definition) × IsListing c.in-Ok.linkage.objects names × CanBeSaid c.args.wanted c.in-Ok.linkage (meaning_views names) × Compares c.args.image.now (debug_file c.args.wanted c.in-Ok.linkage (meaning_views names)) r) c.in-Ok-None.field-0-is c.in-Ok-None.ensures.compared in
    record { link = c.in-Ok.linkage; names = made.0; prepared = c.in-Ok.ensures.prepared; own = c.in-Ok.ensures.right; listing = made.1; said = made.2; is = made.3 }

-- the numbers of what would be the image can't be said
large :
    (files : List File) (words : List (List ℕ)) (w : Wanted) (image : List ℕ) (l : Linked) (e : LinkError) (v : DebugVerdict) → IsPrepared files words l →
    (is_memory e ≡ false → (names : List code.Definition) × IsListing l.objects names × (¬ CanBeSaid w l (meaning_views names))) →
    (v ≡ verdict.NoTables None) × (is_memory e ≡ false) → TellsTables files words w image v
large files words w image l e v prepared said is =
    let none = said is.1 in
    subst (TellsTables files words w image) (sym is.0) (inr (inr (record { link = l; names = none.0; prepared = prepared; listing = none.1; large = none.2 })))

pub returns : goal.returns
returns c =
    let files = held_files c.args.parts.now c.args.files.now in
    let words = words_of c.args.words.now in
    let said = subst (λ e. is_memory e ≡ false → (names : List code.Definition) × IsListing c.in-Ok.linkage.objects names × (¬ CanBeSaid c.args.wanted c.in-Ok.linkage (meaning_views names))) c.in-Err-compared.error-is c.in-Err-compared.ensures.large in
    IfOk-weaker c.without_tables-in-Err-compared.result (λ v. (v ≡ verdict.NoTables None) × (is_memory c.in-Err-compared.error ≡ false)) (TellsTables files words c.args.wanted c.args.image.now)
    (λ v is. large files words c.args.wanted c.args.image.now c.in-Ok.linkage c.in-Err-compared.error v c.in-Ok.ensures.prepared said is) c.without_tables-in-Err-compared.ensures
