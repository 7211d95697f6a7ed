-- The statuses of Windows, NTSTATUS, that a KDC tells in an extended error, with their names, in order of number.
-- MS-ERREF, 2.3.1.
use Rattle.std.specs.Prelude.{ℕ, ℤ, pos, List, [], ◌∷◌, codes}

abbrev pub statuses : List (ℤ × List ℕ)
statuses =
    (pos 0xC0000022, codes "STATUS_ACCESS_DENIED")
    ∷ (pos 0xC000005E, codes "STATUS_NO_LOGON_SERVERS")
    ∷ (pos 0xC0000064, codes "STATUS_NO_SUCH_USER")
    ∷ (pos 0xC000006A, codes "STATUS_WRONG_PASSWORD")
    ∷ (pos 0xC000006C, codes "STATUS_PASSWORD_RESTRICTION")
    ∷ (pos 0xC000006D, codes "STATUS_LOGON_FAILURE")
    ∷ (pos 0xC000006E, codes "STATUS_ACCOUNT_RESTRICTION")
    ∷ (pos 0xC000006F, codes "STATUS_INVALID_LOGON_HOURS")
    ∷ (pos 0xC0000070, codes "STATUS_INVALID_WORKSTATION")
    ∷ (pos 0xC0000071, codes "STATUS_PASSWORD_EXPIRED")
    ∷ (pos 0xC0000072, codes "STATUS_ACCOUNT_DISABLED")
    ∷ (pos 0xC00000BB, codes "STATUS_NOT_SUPPORTED")
    ∷ (pos 0xC00000E5, codes "STATUS_INTERNAL_ERROR")
    ∷ (pos 0xC0000133, codes "STATUS_TIME_DIFFERENCE_AT_DC")
    ∷ (pos 0xC000015B, codes "STATUS_LOGON_TYPE_NOT_GRANTED")
    ∷ (pos 0xC000018B, codes "STATUS_NO_TRUST_SAM_ACCOUNT")
    ∷ (pos 0xC0000193, codes "STATUS_ACCOUNT_EXPIRED")
    ∷ (pos 0xC0000199, codes "STATUS_NOLOGON_WORKSTATION_TRUST_ACCOUNT")
    ∷ (pos 0xC0000224, codes "STATUS_PASSWORD_MUST_CHANGE")
    ∷ (pos 0xC0000225, codes "STATUS_NOT_FOUND")
    ∷ (pos 0xC0000234, codes "STATUS_ACCOUNT_LOCKED_OUT")
    ∷ (pos 0xC0000272, codes "STATUS_NO_MATCH")
    ∷ (pos 0xC00002FA, codes "STATUS_SMARTCARD_LOGON_REQUIRED")
    ∷ (pos 0xC0000320, codes "STATUS_PKINIT_FAILURE")
    ∷ (pos 0xC0000388, codes "STATUS_DOWNGRADE_DETECTED")
    ∷ (pos 0xC000040B, codes "STATUS_CROSSREALM_DELEGATION_FAILURE")
    ∷ (pos 0xC0000413, codes "STATUS_AUTHENTICATION_FIREWALL_FAILED")
    ∷ []
