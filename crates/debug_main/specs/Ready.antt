-- What must hold of the file of an image for tools that is written.
use Rattle.std.specs.Prelude.{◌≡◌, List}
use Rattle.image_write.specs.Linkages.{Linked}
use Rattle.image_write.specs.Listings.{IsListing}
use Rattle.resolve.specs.Views.{meaning_views}
use Rattle.resolve.specs.declared.definition.Definition as code
use Rattle.debug_image.specs.DebugImage.{debug_file}
use Rattle.debug_image.specs.DebugLayouts.{IsDataLayout}
use Rattle.debug_image.specs.declared.debug_file.Wanted.{Wanted}
use Rattle.debug_law.specs.ReadImages.{IsReadBack}
use Rattle.debug_main.specs.DebugFiles.{file_of}
use Rattle.debug_main.specs.declared.debug_file.DebugFile.{DebugFile}

-- its debug data are laid out
pub record IsReady (f : DebugFile) : Type 0 where
  pub layout : IsDataLayout f.layout.now

-- it is the image for tools of a link, and a reader of the standard's tables finds in it what these tell
pub record IsToolFile (w : Wanted) (l : Linked) (f : DebugFile) : Type 0 where
  pub names : List code.Definition
  pub listing : IsListing l.objects names
  pub is : file_of f.layout.now f.parts.now ≡ debug_file w l (meaning_views names)
  pub read : IsReadBack w l (meaning_views names)
