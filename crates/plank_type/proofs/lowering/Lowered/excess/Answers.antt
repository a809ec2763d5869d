-- Of a text within the limits of its tree, only the program may have too much.
use Rattle.std.proofs.Common.{List, Option, sym, ◌∙◌, ap}
use Rattle.std.specs.Option.{option_or}
use Rattle.plank_prog.specs.declared.headers.Header.{Header}
use Rattle.plank_prog.specs.declared.methods.Method.{Method}
use Rattle.plank_type.specs.declared.limits.Excess.{Excess}
use Rattle.plank_type.specs.Headers.{header_of}
use Rattle.plank_type.specs.Methods.{methods_of}
use Rattle.plank_type.specs.Limits.{program_excess}
use Rattle.plank_type.proofs.lowering.Lowered.excess.Goals as goal

pub returns : goal.returns
returns c =
    let lowered = c.args.self.now in
    let t = lowered.limited.typed.now.text.now in
    c.program_excess.ensures
    ∙ ap (λ (h : Header). program_excess h lowered.methods) lowered.header_is
    ∙ ap (λ (ms : List Method). program_excess (header_of t) ms) lowered.methods_are
    ∙ ap (λ (o : Option Excess). option_or o (program_excess (header_of t) (methods_of t))) (sym lowered.limited.within)
