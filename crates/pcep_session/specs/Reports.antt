-- What a message of errors says first (RFC 5440, section 6.7).
use Rattle.std.specs.Prelude.{ℕ, List, [], ◌∷◌, Option, Some, None}
use Rattle.pcep_objects.specs.declared.object.OpenBody.{OpenBody}
use Rattle.pcep_messages.specs.declared.message.ErrorReport.{ErrorReport}

abbrev pub or_else : {X : Type 0} → Option X → Option X → Option X
or_else None other = other
or_else (Some x) other = Some x

abbrev pub first_of : {X : Type 0} → List X → Option X
first_of [] = None
first_of (x ∷ xs) = Some x

-- the first error, by type and value, of all reports
abbrev pub first_error_of : List ErrorReport → Option (ℕ × ℕ)
first_error_of [] = None
first_error_of (report ∷ reports) = or_else (first_of report.errors) (first_error_of reports)

-- the first OPEN of all reports
abbrev pub first_opening_of : List ErrorReport → Option OpenBody
first_opening_of [] = None
first_opening_of (report ∷ reports) = or_else report.opening (first_opening_of reports)
