-- The law of listings. It is the contract of a function of the module `runs` of krb_tool_laws.
use Rattle.std.specs.Prelude.{ℕ, ◌≡◌, ◌+◌, List}
use Rattle.krb_der.specs.declared.profile.Profile.{Profile}
use Rattle.krb_der.specs.declared.why.Why.{Why}
use Rattle.krb_msg.specs.Grammar.{messages}
use Rattle.krb_msg.specs.Stream.{Refused}
use Rattle.krb_frame.specs.Laws.{IsRefusedWith}
use Rattle.krb_tool.specs.Listing.{end_of}
use Rattle.krb_tool.specs.Paths.{end_extent}

-- The first octet with which a stream is refused is the one at the offset and the place that its last line tells.
abbrev pub RefusalsAreAtOffsets : Type 0
RefusalsAreAtOffsets = (profile : Profile) (limit : ℕ) (stream : List ℕ) (place : ℕ) (reason : Why) → end_of profile limit stream ≡ Refused place reason → IsRefusedWith (messages profile) limit stream ((end_extent profile limit stream).at + place)
