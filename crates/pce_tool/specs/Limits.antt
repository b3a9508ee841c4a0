-- How many bytes of a certificate and of its input a run reads at most.
use Rattle.std.specs.Prelude.{ℕ}

abbrev pub certificate_max : ℕ
certificate_max = 1048576

abbrev pub input_max : ℕ
input_max = 262144
