-- What was found stays.
use Rattle.std.proofs.Common.{◌≡◌, ℕ, List, ◌++◌, sym, ◌∙◌, ap}
use Rattle.krb_capture.specs.Found.{Found}
use Rattle.krb_capture.specs.Streams.{found_with, framed}
use Rattle.krb_capture.specs.declared.flow.Service.{Service}
use Rattle.krb_capture.proofs.Framed.{found_with-of}

abbrev pub Extends : Service → ℕ → List ℕ → List ℕ → Type 0
Extends service limit stream more = (framed service limit (stream ++ more)).found ≡ (framed service limit stream).found ++ found_with service limit stream more

pub extends-of : (service : Service) (limit : ℕ) (stream more : List ℕ) (xs ys : List Found) → (framed service limit stream).found ≡ xs → (framed service limit (stream ++ more)).found ≡ xs ++ ys → Extends service limit stream more
extends-of service limit stream more xs ys e f =
    f ∙ ap (λ l. l ++ ys) (sym e) ∙ ap (λ l. (framed service limit stream).found ++ l) (sym (found_with-of service limit stream more xs ys e f))
