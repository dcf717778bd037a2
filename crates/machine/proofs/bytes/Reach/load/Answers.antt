use Rattle.std.proofs.Common.{◌≡◌, ℕ, suc, ◌+◌, ◌-◌, length, replicate, take, ap, ◌∙◌, arith}
use Rattle.std.proofs.lemmas.List.{length-take-le, take-replicate}
use Rattle.monitor.specs.Bytes.{number}
use Rattle.machine.proofs.Stores.{filled_more, nth_or, number_padded}
use Rattle.machine.proofs.bytes.Reach.load.Goals as goal

pub loop-i-init : goal.loop-i-init
loop-i-init g c =
    let n = c.self.inside.size in
    let e : n ≡ n - 0 = omega arith in
    let is : take n (replicate 8 0) ≡ replicate {A = ℕ} n 0 = take-replicate n 8 0 c.self.invariant.0 in
    is ∙ ap (λ k. replicate k 0) e

pub loop-i-preserved : goal.loop-i-preserved
loop-i-preserved g c =
    let xs = g.M.Memory.bytes c.args.memory.now in
    let i = c.loop-i.i in
    let n = c.self.inside.size in
    let long : length (take n (replicate {A = ℕ} 8 0)) ≡ n = length-take-le n (replicate 8 0) c.self.invariant.0 in
    let e : n - i ≡ suc (n - (i + 1)) = omega arith in
    let f : i + 1 ≡ suc i = omega arith in
    let s = filled_more xs c.self.inside.address i (n - (i + 1)) in
    let v = nth_or xs (c.self.inside.address + i) in
    cc

pub returns : goal.returns
returns g c =
    let xs = g.M.Memory.bytes c.args.memory.now in
    let n = c.self.inside.size in
    let long : length (take n (replicate {A = ℕ} 8 0)) ≡ n = length-take-le n (replicate 8 0) c.self.invariant.0 in
    let done : c.loop-i.i ≡ n = omega arith in
    c.from_le_bytes.ensures ∙ number_padded xs c.loop-i.byte-items c.self.inside.address n c.loop-i.i c.self.invariant.0 done c.loop-i.invariant
    ∙ ap (λ r. number xs r.0 r.1) c.self.view_is
