-- What a decoder of the H4 octets of a line knows after some of them (G.707, G.7042).
use Rattle.std.specs.Prelude.{◌≡◌, ℕ, nat_lt, ◌&&◌, if◌then◌else◌, List, [], ◌∷◌, length, take, Some}
use Rattle.member_path.specs.declared.h4_multiframe.MfiLock.{MfiLock}
use Rattle.member_path.specs.h4_multiframe.LockState.{LockStands}
use Rattle.law_model.specs.Common.{LineLock, unlocked, lock_by, good_cells, is_front, upper_halves}

-- how many octets were given, the lock of the line, and sixteen nibbles of which the first `begun` are those of a
-- packet that has
-- begun
pub record Decoding : Type 0 where
  pub given : ℕ
  pub lock : MfiLock
  pub nibbles : List ℕ
  pub begun : ℕ

-- the nibbles of a packet that has begun among octets that come after others, and is not whole: the last octets are the
-- first
-- ones of a packet, and fewer than sixteen
unfoldable pub begun_on : LineLock → List ℕ → List ℕ
begun_on lock [] = []
begun_on lock (h4 ∷ octets) =
    if nat_lt (length (h4 ∷ octets)) 16 && is_front lock (h4 ∷ octets) then upper_halves (h4 ∷ octets) else begun_on
    (lock_by lock (Some h4)) octets

abbrev pub begun_in : List ℕ → List ℕ
begun_in octets = begun_on unlocked octets

-- these octets were given
pub record DecoderStands (decoding : Decoding) (octets : List ℕ) : Type 0 where
  pub count : decoding.given ≡ length octets
  pub lock : LockStands decoding.lock (good_cells octets)
  pub begun : take decoding.begun decoding.nibbles ≡ begun_in octets
