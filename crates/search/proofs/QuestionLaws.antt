-- What a question's struct says of its netlist.
use mathlib.Core.Path.{◌≡◌}
use Rattle.netlist.proofs.SoundLaws.{sound-size}
use Rattle.netlist.specs.Netlist.{net_of, pin_count}
use Rattle.search.specs.declared.question.Question.{Question}

-- n is the count of its nodes
pub question_size : (q : Question) → q.n ≡ (net_of q.netlist.now).size
question_size q = sound-size q.netlist.now q.n (pin_count q.netlist.now) q.sound_netlist
