-- An answer as one number: a code from 2 ^ 48 up, lines from 2 ^ 24 up, and below that the bytes of an output or the length of a chain.
use Rattle.std.specs.Prelude.{ℕ, ◌+◌, ◌*◌, ◌^◌, ◌<◌}
use Rattle.language.specs.Commands.{DENIED, FAILED, FULL}
use Rattle.language.specs.Run.{Kind, returned, exited, stopped}
use Rattle.language.specs.Calls.{Answer, wrong, ended, yes, no, ready, listed}

abbrev pub coded : ℕ → ℕ → ℕ → ℕ
coded code lines low = code * 2 ^ 48 + lines * 2 ^ 24 + low

abbrev pub end_code : Kind → ℕ
end_code returned = 16
end_code exited = 17
end_code (stopped DENIED) = 18
end_code (stopped FAILED) = 19
end_code (stopped FULL) = 20

-- a wrong call has its number as its code
abbrev pub wire : Answer → ℕ
wire (wrong n) = coded n 0 0
wire (ended r) = coded (end_code r.kind) r.lines r.size
wire (yes n) = coded 32 0 n
wire no = coded 33 0 0
wire ready = coded 48 0 0
wire (listed n k) = coded 64 n k

-- its numbers have room
abbrev pub Fits : Answer → Type 0
Fits (wrong n) = Unit {0}
Fits (ended r) = (r.lines < 2 ^ 24) × (r.size < 2 ^ 24)
Fits (yes n) = n < 2 ^ 24
Fits no = Unit {0}
Fits ready = Unit {0}
Fits (listed n k) = (n < 2 ^ 24) × (k < 2 ^ 24)
