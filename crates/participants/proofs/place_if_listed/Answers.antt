use Rattle.std.proofs.Common.{rules, ◌≡◌, ◌<◌, MatchOption, length, ℕ, get_or}
use Rattle.participants.proofs.Listing.{placed}
use Rattle.participants.proofs.place_if_listed.Goals as goal

pub returns : goal.returns
returns c = let codes = c.args.codes.now in
    let first : MatchOption c.position.result ((k : ℕ) → k < length codes → get_or codes k 0 ≡ c.args.code → ⊥) (λ p. (p < length codes) × (get_or codes p 0 ≡ c.args.code) × ((k : ℕ) → k < p → get_or codes k 0 ≡ c.args.code → ⊥)) = search rules in
    placed c.args.code codes c.position.result first
