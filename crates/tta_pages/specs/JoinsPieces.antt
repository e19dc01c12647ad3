-- The pieces of the fixed text of the script that joins lines, register code, moves and cycles.
use Rattle.std.specs.Prelude.{ℕ, List, codes}

-- the script that finds the cycle and the bus of each move that is left
unfoldable pub places_text : List ℕ
places_text =
    codes "function slotsOf(row){\nconst [moves,long]=row.text.split(' ['),slots=moves.split(' , ').map((text,bus)=>({address:row.address,bus,text}));\nreturn long?[...slots,{address:row.address,bus:-1,text:'['+long}]:slots;\n}\nfunction placeAll(all,block,last){\nblock.slots=block.rows.flatMap(slotsOf).filter(slot=>slot.text!='...');\nconst numbered=text=>text.replace(/(^| )(b[0-9]+) ->/,(m,blank,name)=>blank+all.named.get(name).address+' ->');\nfor(const item of last){\nconst text=numbered(item.now),long=text.startsWith('long ');\nconst slot=block.slots.find(s=>!s.item&&(long?s.bus<0:s.text==text));\nif(slot){slot.item=item;item.slot=slot;}\n}\n}\n"

-- the script that joins lines of the program, steps of register code and moves
unfoldable pub joins_text : List ℕ
joins_text =
    codes "const bare=text=>text.replace(/ goto .*/,'').replace(/ call .*/,' call').replace(/^call .*/,'call').replace(/ 0 /g,' ');\nfunction lineJoins(all,block){\nconst own=all.blocks.find(b=>b.proc==block.proc&&b.first<=block.first&&block.last<=b.last&&block.kind=='steps');\nconst steps=own?own.steps.filter(s=>s.line>=block.first&&s.line<=block.last):[];\nconst homes=Object.fromEntries(all.variables.filter(v=>v.proc==block.proc).map(v=>[v.name,v.home]));\nconst homed=steps.map(s=>bare(s.text.split(' ').map(word=>homes[word]||word).join(' ')));\nlet at=0;\nconst line=text=>{\nconst found=homed.indexOf(bare(text),at);\nif(found>=0)at=found+1;\nconst step=steps[found>=0?found:Math.min(at,steps.length-1)];\nreturn block.proc+':'+(step?step.line:block.first||'entry');\n};\nblock.own=steps;\nblock.code=block.steps.map(text=>({text,line:line(text)}));\nat=Math.max(0,steps.length-1);\nblock.code.push({text:block.exit,line:line(block.exit)});\n}\n"

-- the script that finds the moves of each step of register code: up to the one that writes its result
unfoldable pub moves_text : List ℕ
moves_text =
    codes "function lastMoveOf(step){\nconst home=/(^| )([^ ]+) = /.exec(step),op={store:'stw',save:'stf'}[step.split(' ')[0]]||step.split(' ')[0];\nif(home&&!home[2].startsWith('slot.'))return text=>targetOf(text)==home[2];\nreturn text=>targetOf(text).endsWith('.t.'+(home?'stf':op));\n}\n"

-- the script that joins all blocks, and the start of an operation with the reads of its result
unfoldable pub all_joins_text : List ℕ
all_joins_text =
    codes "function joinAll(all){\nlet results=0;\nfor(const block of all.code){\nlineJoins(all,block);\nconst {items,last}=followed(block.lists.length?block.lists:[{what:'selected',items:[]}]),shown=items.filter(item=>item.text);\nlet from=0;\nfor(const step of block.code.slice(0,-1)){\nconst end=shown.findIndex((item,k)=>k>=from&&lastMoveOf(step.text)(item.text));\nfor(;from<=end;from++)shown[from].line=step.line;\n}\nfor(;from<shown.length;from++)shown[from].line=block.code[block.code.length-1].line;\nblock.items=items;\nitems.forEach(item=>item.line=item.line||(item.near?item.near.line:block.code[0].line));\nplaceAll(all,block,last);\nconst open={};\nfor(const item of last){\nconst read=/(^| )([^ ]+)[.]r ->/.exec(item.now),start=/-> ([^ ]+)[.]t[.]/.exec(item.now);\nif(read&&open[read[2]])item.result=open[read[2]];\nif(start){item.starts=++results;open[start[1]]=results;}\n}\n}\nreturn all;\n}\n"
