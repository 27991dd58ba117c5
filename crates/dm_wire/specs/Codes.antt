-- The greatest Command Code, AVP Length and Message Length (RFC 6733, 3 and 4.1). They are numbers of their own, so
-- that a constant of the code has to be right.
use Rattle.std.specs.Prelude.{ℕ}

-- what three octets hold
abbrev pub max_command : ℕ
max_command = 16777215

abbrev pub max_avp_len : ℕ
max_avp_len = 16777215

-- of that the greatest multiple of 4
abbrev pub max_message_len : ℕ
max_message_len = 16777212
