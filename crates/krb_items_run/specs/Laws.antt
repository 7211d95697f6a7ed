-- The law of how a listing of items ends. It is the contract of a function of the module `law`.
use Rattle.std.specs.Prelude.{ℕ, ◌≡◌, List, ◌++◌}
use Rattle.krb_der.specs.declared.profile.Profile.{Profile}
use Rattle.krb_record.specs.Labels.{Label, line_of}
use Rattle.krb_run.specs.Files.{FileListing}
use Rattle.krb_run.specs.declared.run.RunEnd.{RunEnd}
use Rattle.krb_run.specs.declared.run.RunEnd.TheVariants as run
use Rattle.krb_tool.specs.Messages.{message_listing}
use Rattle.krb_items_run.specs.Items.{items_end_record, items_listing}

abbrev pub EndsWith : (last text : List ℕ) → Type 0
EndsWith last text = (before : List ℕ) × (text ≡ before ++ last)

-- the last record says how many items there are if a message is listed, and else it is that of its refusal
abbrev pub IsLast : Label → (message : FileListing) → RunEnd → (items : List ℕ) → Type 0
IsLast label message run.Clean items = (count : ℕ) × EndsWith (line_of label (items_end_record count)) items
IsLast label message run.Refused items = EndsWith message.text items
IsLast label message run.RefusedAtOnce items = EndsWith message.text items

pub record EndsAs (label : Label) (message items : FileListing) : Type 0 where
  pub end : items.end ≡ message.end
  pub last : IsLast label message message.end items.text

-- The items of an input are listed to the same end as the message that it spells.
abbrev pub ItemsEndAsMessages : Type 0
ItemsEndAsMessages = (label : Label) (profile : Profile) (input : List ℕ) → EndsAs label (message_listing label profile input) (items_listing label profile input)
