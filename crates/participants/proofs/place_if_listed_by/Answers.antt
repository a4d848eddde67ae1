use Rattle.std.proofs.Common.{◌≡◌, ◌<◌, length, get_or, ◌%◌, rules, refl}
use Rattle.participants.proofs.Listing.{look_hit, listed}
use Rattle.participants.proofs.place_if_listed_by.Goals as goal

pub returns-then-codes-at : goal.returns-then-codes-at
returns-then-codes-at c = let at = get_or c.args.firsts.now (c.args.code % 1024) 0 in
    let lt : at < length c.args.codes.now = search rules in
    let hit : get_or c.args.codes.now at 0 ≡ c.args.code = search rules in
    listed c.args.code c.args.codes.now lt (look_hit c.requires refl lt hit)
