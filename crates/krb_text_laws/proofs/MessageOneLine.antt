-- What is printed of a message is one line.
use Rattle.std.proofs.Common.{◌≡◌, true, List, [], ◌∷◌, ◌++◌, refl, codes}
use Rattle.std.specs.List.{list_all}
use Rattle.krb_der.specs.declared.profile.Profile.TheVariants as profiles
use Rattle.krb_msg.specs.Term.{IfPresent}
use Rattle.krb_msg.specs.Notes.{notes_of}
use Rattle.krb_msg.specs.declared.notes.Notes.{Notes}
use Rattle.krb_msg.specs.Views.{IsInProfile, kind_name, kind_of}
use Rattle.krb_msg.specs.declared.message.Message.{Message}
use Rattle.krb_msg.specs.declared.message.Message.TheVariants as message
use Rattle.krb_record.specs.declared.form.Base.{Base}
use Rattle.krb_record.specs.declared.form.Base.TheVariants as bases
use Rattle.krb_record.specs.Forms.{form_of, shows_kind}
use Rattle.krb_text.specs.Messages.{notes, fields_of, message_record, shown_record}
use Rattle.krb_record.specs.Values.{Field, Printed, the}
use Rattle.krb_record.proofs.Printable.{is_printable}
use Rattle.krb_text_laws.proofs.EachForm.{ArePlainParts, AreShown, names_are_plain}
use Rattle.krb_text.specs.Inside.{inside_of}
use Rattle.krb_text.specs.declared.clear_type.Carrier.TheVariants as carriers
use Rattle.krb_text_laws.proofs.FieldsOneLine.{kdc_req, kdc_rep, of_ap_req, safe, error}
use Rattle.krb_text_laws.proofs.InsideOneLine.{error_inside, kdc_req_inside, padata_inside, tickets_inside}

-- ---- and their notes
and_notes : (fields : List Field) (n : Notes) → AreShown fields → AreShown (fields ++ (the (codes "notes") (notes n) ∷ []))
and_notes [] n h = (tt, tt)
and_notes (field ∷ fields) n h = (h.0, and_notes fields n h.1)

-- ---- records
-- the kind and the names are plain, and the values are shown
pub record IsPlain (r : Printed) : Type 0 where
  pub kind : list_all is_printable r.kind ≡ true
  pub names : names_are_plain r.fields ≡ true
  pub fields : AreShown r.fields
  pub inside : IfPresent ArePlainParts r.inside

plain : (m : Message) → list_all is_printable (kind_name (kind_of m)) ≡ true → names_are_plain (fields_of m ++ (the (codes "notes") (notes (notes_of m)) ∷ [])) ≡ true → AreShown (fields_of m) → IfPresent ArePlainParts (inside_of m) → IsPlain (message_record m)
unfolding message_record
plain m kind names h inside = record { kind = kind; names = names; fields = and_notes (fields_of m) (notes_of m) h; inside = inside }

pub record_is_plain : (m : Message) → IsInProfile profiles.Lenient m → IsPlain (message_record m)
record_is_plain (message.AsReq m) good = plain (message.AsReq m) refl refl (kdc_req m good.fits.1.1.1.0) (kdc_req_inside m good.fits.1.1.0 good.fits.1.1.1.0)
record_is_plain (message.AsRep m) good = plain (message.AsRep m) refl refl (kdc_rep m good.fits.1.1.1.0.0 good.fits.1.1.1.1.0 good.fits.1.1.1.1.1.0) (padata_inside carriers.Reply m.padata good.fits.1.1.0)
record_is_plain (message.TgsReq m) good = plain (message.TgsReq m) refl refl (kdc_req m good.fits.1.1.1.0) (kdc_req_inside m good.fits.1.1.0 good.fits.1.1.1.0)
record_is_plain (message.TgsRep m) good = plain (message.TgsRep m) refl refl (kdc_rep m good.fits.1.1.1.0.0 good.fits.1.1.1.1.0 good.fits.1.1.1.1.1.0) (padata_inside carriers.Reply m.padata good.fits.1.1.0)
record_is_plain (message.ApReq m) good = plain (message.ApReq m) refl refl (of_ap_req m good.fits) tt
record_is_plain (message.KrbSafe m) good = plain (message.KrbSafe m) refl refl (safe m good.fits) tt
record_is_plain (message.KrbCred m) good = plain (message.KrbCred m) refl refl (tt, (tt, tt)) (tickets_inside m.tickets good.fits.1.1.0.1)
record_is_plain (message.KrbError m) good = plain (message.KrbError m) refl refl (error m good.fits) (error_inside m)
record_is_plain other good = plain other refl refl (tt, tt) tt

-- messages of each kind are shown in forms that are printed
pub shown_whole : (base : Base) (m : Message) → shown_record (form_of base) m ≡ message_record m
unfolding shows_kind
shown_whole bases.Lines m = refl
shown_whole bases.NamedLines m = refl
shown_whole bases.Json m = refl
