-- Limits: the weight of 8,192, identifiers of 255 bytes, programs of 16,384 bytes, and the numbers of wrong calls.
use Rattle.std.specs.Prelude.{◌≡◌, refl, ℕ, true, false, [], ◌∷◌, ◌++◌, map, length, replicate}
use Prim.Native.String.{String}
use Rattle.language.specs.Text.{Text, bytes, present}
use Rattle.language.specs.Encode.{buffer_size}
use Rattle.language.specs.Programs.{parse}
use Rattle.language.specs.Run.{counted}
use Rattle.language.specs.Calls.{wrong, yes, no, ready, Buffers, make_call, run_call, run_on, ask_call, question, right_byte}
use Rattle.worked.specs.Sessions.{letters, runs, after_session, admin_sends}
use Rattle.worked.specs.Texts.{accepted}

-- ---- FULL: the two programs at the limit are rows of the starred table

-- the state text that weighs 8,192 is well formed, and the one that weighs 8,193 is not
abbrev pub weighing : ℕ → Text
weighing n = bytes "O\nP\tadmin\tdesk\t1\nN\tanyone\t0\nD\tanyone\nV\tx\tS\t" ++ letters n ++ bytes "\n"

pub weights : map (λ n. accepted (weighing n)) (8162 ∷ 8163 ∷ []) ≡ true ∷ false ∷ []
weights = refl

-- ---- lengths

abbrev pub named : ℕ → Text
named n = bytes "as principal admin password \"desk\" do\nset " ++ letters n ++ bytes " = []\nexit\n***\n"

pub identifiers : map (λ n. present (parse (named n))) (255 ∷ 256 ∷ []) ≡ true ∷ false ∷ []
identifiers = refl

-- 51 bytes around a string of n
abbrev pub program_of : ℕ → Text
program_of n = bytes "as principal admin password \"desk\" do\nreturn \"" ++ letters n ++ bytes "\"\n***"

pub programs : map (λ n. present (parse (program_of n))) (16333 ∷ 16334 ∷ []) ≡ true ∷ false ∷ []
programs = refl

pub their_lengths : map (λ n. length (program_of n)) (16333 ∷ 16334 ∷ []) ≡ 16384 ∷ 16385 ∷ []
their_lengths = refl

-- ---- a count stays at its last value

pub counts : map counted (0 ∷ 4294967294 ∷ 4294967295 ∷ []) ≡ 1 ∷ 4294967295 ∷ 4294967295 ∷ []
counts = refl

-- ---- the numbers of wrong calls, in their order

-- a buffer of the right size that is no state
abbrev pub zeros : Text
zeros = replicate buffer_size 0

abbrev pub lent : Text → Text → Text → Buffers
lent state work output = record { state = state; work = work; output = output }

-- output, state and work of the wrong size; a state that is none
pub run_numbers : map (λ b. (run_call b []).answer) (lent [] [] [] ∷ lent [] [] zeros ∷ lent zeros [] zeros ∷ lent zeros zeros zeros ∷ [])
    ≡ wrong 1 ∷ wrong 2 ∷ wrong 3 ∷ wrong 4 ∷ []
run_numbers = refl

pub ask_numbers : map (λ b. (ask_call b [] [] 0).answer) ([] ∷ zeros ∷ []) ≡ wrong 2 ∷ wrong 4 ∷ []
ask_numbers = refl

pub make_numbers : map (λ (c : Text × Text). (make_call c.0 c.1).answer) (([], bytes ":") ∷ (zeros, bytes ":" ++ letters 1024) ∷ (zeros, letters 1025) ∷ (zeros, letters 1024) ∷ [])
    ≡ wrong 2 ∷ wrong 8 ∷ wrong 9 ∷ ready ∷ []
make_numbers = refl

-- the question's numbers, where the state is well formed
pub question_numbers : map (λ (c : String × String × ℕ). question after_session (bytes c.0) (bytes c.1) (right_byte c.2))
    (("nobody", "nosuch", 0) ∷ ("rosa", "nosuch", 114) ∷ ("rosa", "queue", 120) ∷ ("rosa", "queue", 97) ∷ ("rosa", "queue", 114) ∷ [])
    ≡ wrong 6 ∷ wrong 7 ∷ wrong 7 ∷ yes 1 ∷ no ∷ []
question_numbers = refl

-- closed
pub closed_number : (run_on (lent [] [] []) [] (runs after_session (admin_sends ("exit" ∷ []) ∷ [])).state).answer ≡ wrong 5
closed_number = refl
