-- The pieces of the fixed text of the script that shows the states of a run.
use Rattle.std.specs.Prelude.{ℕ, List, codes}

-- the script that shows units with the results under way, registers, memory and output
unfoldable pub run_state_text : List ℕ
run_state_text =
    codes "function bars(row){\nreturn row.flatMap((word,delay)=>{\nif(!delay||word=='-')return [];\nconst bar=make('span','due');\nbar.style.width=delay+'rem';\nreturn [shown(word)+' in '+delay,bar];\n});\n}\nfunction flight(state){\nconst ports=state.units.map((row,unit)=>make('tr','',make('td','',names.unit[unit]),make('td','',shown(state.kept.get(names.unit[unit]+'.o')||'-')),\nmake('td','',shown(row[0])),make('td','',...bars(row))));\nreturn make('table','',make('tr','',...['unit','operand','result','under way'].map(name=>make('th','',name))),...ports);\n}\n"

-- the script that shows registers and memory
unfoldable pub run_cells_text : List ℕ
run_cells_text =
    codes "function registers(state,before){\nconst files=state.files.map((row,file)=>make('div','',make('b','',names.file[file]+' '),\n...row.map((word,index)=>cell(index,word,before&&before.files[file][index]))));\nconst others=names.imm.flatMap((name,k)=>state.imms[k].map((word,index)=>cell(name+'.'+index,word,before&&before.imms[k][index])));\nconst back=state.kept.get('gcu.ra');\nreturn [...files,make('div','',...others,...back=='-'?[]:[cell('gcu.ra',back,before&&before.kept.get('gcu.ra'))])];\n}\nfunction memoryCells(state){\nconst all=[...state.memory].sort((a,b)=>a[0]-b[0]);\nreturn all.length?all.map(([address,word])=>cell(address,word,state.changed.has(address)?'':word)):['nothing was stored'];\n}\n"

-- the script that shows the data words that the moves of a state read: a word is the result that begins in the next state
unfoldable pub run_loads_text : List ℕ
run_loads_text =
    codes "function loads(state,next){\nreturn state.acts.filter(act=>act.look=='active'&&act.target.endsWith('.t.ldw')).map(act=>{\nconst unit=names.unit.indexOf(act.target.split('.')[0]),before=state.units[unit],after=next?next.units[unit]:[];\nconst word=after.find((word,delay)=>delay&&word!='-'&&(before[delay+1]||'-')=='-')||after[0];\nreturn make('span','cell','reads '+act.word+(word?': '+shown(word):''));\n});\n}\n"

-- the script that tells which cycles are shown of those that were asked for, and which part of the code
unfoldable pub run_span_text : List ℕ
run_span_text =
    codes "function spanText(){\nconst first=states[0].cycle,last=states[states.length-1].cycle;\nconst rest=+first<asked.first?'; the run is over before':end=='more cycles may follow'?'; more may follow':'; then '+end;\nconst part=rows<instructions?'; of the code '+rows+' of '+instructions+' instructions are shown, and those that are reached':'';\nreturn 'cycles '+first+' to '+last+' shown, '+asked.bound+(asked.first?' from cycle '+asked.first:'')+' asked for'+rest+part;\n}\n"

-- the script that shows a state
unfoldable pub run_show_text : List ℕ
run_show_text =
    codes "let at=0,timer=0;\nfunction show(to){\nat=Math.max(0,Math.min(states.length-1,to));\nconst state=states[at],before=states[at-1],jump=state.jump;\nfind('slider').value=at;\nfind('where').textContent='cycle '+state.cycle+', address '+state.pc+(at==states.length-1?', '+end:'');\nfind('more').textContent=[...jump?[jump.kind+' to '+shown(jump.to)+' in '+jump.left]:[],...state.input?['next input '+shown(state.input)]:[]].join(', ');\nshowCode(state);\nif(bySource){showSource(state);showVariables(state,before);}\nfind('flight').replaceChildren(flight(state));\nfind('registers').replaceChildren(...registers(state,before));\nfind('memory').replaceChildren(...memoryCells(state));\nfind('reads').replaceChildren(...loads(state,states[at+1]));\nfind('output').textContent=(+states[0].cycle?'.. ':'')+state.out.map(shown).join(' ');\nshowMoves(state);\n}\n"

-- the script that plays a run
unfoldable pub run_playing_text : List ℕ
run_playing_text =
    codes "const speeds=[1,2,5,10];\nlet speed=1;\nconst tick=()=>{clearInterval(timer);timer=setInterval(()=>at<states.length-1?show(at+1):stop(),1000/speeds[speed]);};\nfunction stop(){clearInterval(timer);timer=0;find('play').textContent='play';}\nfunction play(){\nif(timer)return stop();\nfind('play').textContent='pause';\ntick();\n}\nfunction faster(){\nspeed=(speed+1)%speeds.length;\nfind('speed').textContent=speeds[speed]+' a second';\nif(timer)tick();\n}\n"

-- the script of buttons, slider and keys
unfoldable pub run_buttons_text : List ℕ
run_buttons_text =
    codes "function reform(){form=(form+1)%3;find('form').textContent=forms[form];show(at);}\nfind('title').textContent=document.title;\nfind('span').textContent=spanText();\nfind('slider').max=states.length-1;\nfind('slider').oninput=event=>show(+event.target.value);\nfind('to').onchange=event=>{show(+event.target.value-states[0].cycle);event.target.blur();};\nfind('back').onclick=()=>show(at-1);\nfind('forward').onclick=()=>show(at+1);\nfind('play').onclick=play;\nfind('form').onclick=reform;\nfind('speed').onclick=faster;\nonKeys({ArrowRight:()=>show(at+1),ArrowLeft:()=>show(at-1),Home:()=>show(0),End:()=>show(states.length-1),p:play,f:reform,s:faster,\ng:()=>find('to').focus(),'+':()=>{resize(1.1);show(at);},'-':()=>{resize(1/1.1);show(at);}});\nshow(0);\n"
