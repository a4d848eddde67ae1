use Prim.Native.Nat.{◌*◌, ◌-◌, ◌≤◌}
use mathlib.Core.Path.{◌≡◌}
use mathlib.Core.Bool.{not}
use lib.ListN.{take, drop, length}
use Rattle.std.specs.Slice.Iter.{chunks_exact_rest, chunks_exact_size}
use Rattle.laws.specs.Lists.{any_of}
use Rattle.text.specs.Characters.{is_inadmissible}
use Rattle.text.proofs.characters.holds_bad.Given as goal

abbrev pub invariant-loop-eight : goal.invariant-loop-eight
invariant-loop-eight l = record {
  size : chunks_exact_size l.eight-iterator ≡ 8;
  rest : chunks_exact_rest l.eight-iterator ≡ drop (8 * length l.yielded) (take (length l.s - 1) l.s);
  within : 8 * length l.yielded ≤ length l.s - 1;
  so_far : l.good ≡ not (any_of is_inadmissible (take (8 * length l.yielded) l.s));
}
