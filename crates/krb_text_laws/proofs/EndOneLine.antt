-- What is printed of refusals, ends and the names of files is one line.
use Rattle.std.proofs.Common.{◌≡◌, ℕ, true, List, [], ◌++◌, Option, Some, None, IfSome, pos, ◌∷◌, refl}
use Rattle.std.specs.List.{list_all}
use Rattle.krb_der.specs.Octets.{AreOctets}
use Rattle.krb_source.specs.Spellings.{spelling_name}
use Rattle.krb_source.specs.declared.spelling.Spelling.{Spelling}
use Rattle.krb_source.specs.declared.spelling.Spelling.TheVariants as spellings
use Rattle.krb_record.specs.declared.extent.Extent.{Extent}
use Rattle.krb_record.specs.declared.form.Base.{Base}
use Rattle.krb_record.specs.declared.form.Base.TheVariants as bases
use Rattle.krb_record.specs.declared.input.InputFault.{InputFault}
use Rattle.krb_record.specs.declared.input.InputFault.TheVariants as faults
use Rattle.krb_record.specs.Forms.{form_of, record_line}
use Rattle.krb_record.specs.Inputs.{input_kind, input_refused_record, input_word}
use Rattle.krb_record.specs.Laws.{IsOneLine}
use Rattle.krb_record.specs.Origins.{message_origin}
use Rattle.krb_record.specs.Refusals.{known_path, path_in, extent_in, spelling_in}
use Rattle.krb_record.specs.Text.{line_feed}
use Rattle.krb_msg.specs.Term.{IfPresent}
use Rattle.krb_record.specs.Values.{Field, Number, String, Word, Printed, if_there, with_inside, with_last, with_origin}
use Rattle.krb_source.specs.declared.layer.Layer.{Layer}
use Rattle.krb_record.proofs.Printable.{Prints, is_printable, word}
use Rattle.krb_text_laws.proofs.EachForm.{ArePlainParts, IsShown, AreShown, names_are_plain, record_prints}

pub ended : {text : List ℕ} → Prints text → IsOneLine (text ++ line_feed)
ended {text} h = (text, h.all, refl)

-- a record of plain names whose values are shown, and whose parts are so, from an origin
pub line_from : (base : Base) (origin : List Field) (r : Printed) → names_are_plain origin ≡ true → AreShown origin → list_all is_printable r.kind ≡ true → names_are_plain r.fields ≡ true → AreShown r.fields → IfPresent ArePlainParts r.inside → IsOneLine (record_line (form_of base) (with_last [] (with_origin origin r)))
line_from base origin r plain shown kind names h inside = ended (record_prints base (with_last [] (with_origin origin r)) (plain, shown) kind (names, h) inside (refl, tt))

-- and without parts, from none
pub one_line : (base : Base) (r : Printed) → list_all is_printable r.kind ≡ true → names_are_plain r.fields ≡ true → AreShown r.fields → IsOneLine (record_line (form_of base) (with_last [] (with_inside None (with_origin [] r))))
one_line base r kind names h = line_from base [] (with_inside None r) refl tt kind names h tt

-- the path of the field at fault
pub path_is_plain : (base : Base) (path : Option (List ℕ)) → names_are_plain (path_in (form_of base) path) ≡ true
path_is_plain bases.Lines path = refl
path_is_plain bases.NamedLines path = refl
path_is_plain bases.Json path = refl

octets_shown : (path : Option (List ℕ)) → IfSome path AreOctets → IsShown (if_there String path)
octets_shown None h = tt
octets_shown (Some octets) h = h

pub path_shown : (base : Base) (path : Option (List ℕ)) → IfSome path AreOctets → AreShown (path_in (form_of base) path)
path_shown bases.Lines path h = tt
path_shown other path h = (octets_shown path h, tt)

-- that which is known
pub known_octets : (base : Base) (path : Option (List ℕ)) → IfSome path AreOctets → IfSome (known_path (form_of base) path) AreOctets
known_octets bases.Lines path h = tt
known_octets bases.NamedLines path h = h
known_octets bases.Json path h = h

-- the path, and where the octets lie
pub number_shown : (n : Option ℕ) → IsShown (if_there (λ n. Number (pos n)) n)
number_shown None = tt
number_shown (Some n) = tt

pub located_is_plain : (base : Base) (path : Option (List ℕ)) (extent : Extent) → names_are_plain (path_in (form_of base) path ++ extent_in (form_of base) extent) ≡ true
located_is_plain bases.Lines path extent = refl
located_is_plain bases.NamedLines path extent = refl
located_is_plain bases.Json path extent = refl

pub located_shown : (base : Base) (path : Option (List ℕ)) (extent : Extent) → IfSome path AreOctets → AreShown (path_in (form_of base) path ++ extent_in (form_of base) extent)
located_shown bases.Lines path extent h = tt
located_shown other path extent h = (octets_shown path h, (tt, (number_shown extent.length, tt)))

-- and how they are spelled
spelled : (s : Spelling) → Prints (spelling_name s)
spelled spellings.Octets = word _ refl
spelled other = word _ refl

spelling_shown : (s : Option Spelling) → IsShown (if_there (λ s. Word (spelling_name s)) s)
spelling_shown None = tt
spelling_shown (Some s) = (spelled s).all

pub spelled_is_plain : (base : Base) (path : Option (List ℕ)) (extent : Extent) (s : Spelling) → names_are_plain (path_in (form_of base) path ++ extent_in (form_of base) extent ++ spelling_in (form_of base) s) ≡ true
spelled_is_plain bases.Lines path extent s = refl
spelled_is_plain bases.NamedLines path extent s = refl
spelled_is_plain bases.Json path extent s = refl

pub spelled_shown : (base : Base) (path : Option (List ℕ)) (extent : Extent) (s : Spelling) → IfSome path AreOctets → AreShown (path_in (form_of base) path ++ extent_in (form_of base) extent ++ spelling_in (form_of base) s)
spelled_shown bases.Lines path extent s h = tt
spelled_shown other path extent s h = (octets_shown path h, (tt, (number_shown extent.length, ((spelled s).all, tt))))

-- where a message comes from
pub origin_is_plain : (line : Option ℕ) (layers : List Layer) → names_are_plain (message_origin line layers) ≡ true
origin_is_plain None [] = refl
origin_is_plain None (first ∷ others) = refl
origin_is_plain (Some line) [] = refl
origin_is_plain (Some line) (first ∷ others) = refl

pub origin_shown : (line : Option ℕ) (layers : List Layer) → AreShown (message_origin line layers)
origin_shown None [] = tt
origin_shown (Some line) (first ∷ others) = (tt, (tt, tt))
origin_shown other another = (tt, tt)

-- a record that comes from a message
pub message_line_from : (base : Base) (line : Option ℕ) (layers : List Layer) (r : Printed) → list_all is_printable r.kind ≡ true → names_are_plain r.fields ≡ true → AreShown r.fields → IfPresent ArePlainParts r.inside → IsOneLine (record_line (form_of base) (with_last [] (with_origin (message_origin line layers) r)))
message_line_from base line layers r kind names h inside = line_from base (message_origin line layers) r (origin_is_plain line layers) (origin_shown line layers) kind names h inside

-- ---- refused input
worded : (fault : InputFault) → Prints (input_word fault)
worded (faults.Misspelled spelling) = spelled spelling
worded other = word _ refl

pub kind_is_plain : (base : Base) (fault : InputFault) → list_all is_printable (input_kind (form_of base) fault) ≡ true
kind_is_plain bases.Json fault = refl
kind_is_plain bases.Lines faults.Length = refl
kind_is_plain bases.Lines faults.Ntlm = refl
kind_is_plain bases.Lines (faults.Misspelled spellings.Octets) = refl
kind_is_plain bases.Lines (faults.Misspelled spellings.Hex) = refl
kind_is_plain bases.Lines (faults.Misspelled spellings.Dump) = refl
kind_is_plain bases.Lines (faults.Misspelled spellings.Base64) = refl
kind_is_plain bases.NamedLines faults.Length = refl
kind_is_plain bases.NamedLines faults.Ntlm = refl
kind_is_plain bases.NamedLines (faults.Misspelled spellings.Octets) = refl
kind_is_plain bases.NamedLines (faults.Misspelled spellings.Hex) = refl
kind_is_plain bases.NamedLines (faults.Misspelled spellings.Dump) = refl
kind_is_plain bases.NamedLines (faults.Misspelled spellings.Base64) = refl

pub input_is_plain : (base : Base) (fault : InputFault) (place : Option ℕ) (extent : Extent) (spelling : Option Spelling) → names_are_plain (input_refused_record (form_of base) fault place extent spelling).fields ≡ true
input_is_plain bases.Lines fault place extent spelling = refl
input_is_plain bases.NamedLines fault place extent spelling = refl
input_is_plain bases.Json fault place extent spelling = refl

pub input_shown : (base : Base) (fault : InputFault) (place : Option ℕ) (extent : Extent) (spelling : Option Spelling) → AreShown (input_refused_record (form_of base) fault place extent spelling).fields
input_shown bases.Lines fault place extent spelling = tt
input_shown bases.NamedLines fault place extent spelling = (number_shown place, (tt, (tt, (tt, (number_shown extent.length, (spelling_shown spelling, tt))))))
input_shown bases.Json fault place extent spelling = ((worded fault).all, (number_shown place, (tt, (tt, (tt, (number_shown extent.length, (spelling_shown spelling, tt)))))))
