-- The codes of errors (RFC 4120, section 7.5.9) that lines name in any case: those that KDCs and servers answer most.
use Rattle.std.specs.Prelude.{ℕ, ℤ, pos, negsuc, ◌==◌, List, [], ◌++◌, codes, if◌then◌else◌}
use Rattle.std.specs.Fmt.{signed_decimal}

unfoldable pub code_name : ℕ → List ℕ
code_name number =
    if number == 6 then codes ":KDC_ERR_C_PRINCIPAL_UNKNOWN"
    else if number == 7 then codes ":KDC_ERR_S_PRINCIPAL_UNKNOWN"
    else if number == 14 then codes ":KDC_ERR_ETYPE_NOSUPP"
    else if number == 24 then codes ":KDC_ERR_PREAUTH_FAILED"
    else if number == 25 then codes ":KDC_ERR_PREAUTH_REQUIRED"
    else if number == 37 then codes ":KRB_AP_ERR_SKEW"
    else if number == 52 then codes ":KRB_ERR_RESPONSE_TOO_BIG"
    else if number == 60 then codes ":KRB_ERR_GENERIC"
    else if number == 61 then codes ":KRB_ERR_FIELD_TOOLONG"
    else []

-- `:` and the name of an error that has one
unfoldable pub code_suffix : ℤ → List ℕ
code_suffix (pos number) = code_name number
code_suffix (negsuc number) = []

unfoldable pub code_text : ℤ → List ℕ
code_text code = signed_decimal code ++ code_suffix code
